use Rattle.interval_set.proofs.OneList.{meet_commutes}
use Rattle.interval_set.proofs.laws.meet_commutes.Goals as goal

pub returns : goal.returns
returns c = meet_commutes
