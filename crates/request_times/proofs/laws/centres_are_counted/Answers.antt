use Rattle.request_times.proofs.Sound.{counted}
use Rattle.request_times.proofs.laws.centres_are_counted.Goals as goal

pub returns : goal.returns
returns c = counted
