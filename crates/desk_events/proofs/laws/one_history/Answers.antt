use Rattle.desk_events.proofs.OneText.{one_history}
use Rattle.desk_events.proofs.laws.one_history.Goals as goal

pub returns : goal.returns
returns c = one_history
