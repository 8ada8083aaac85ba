use Rattle.desk_events.proofs.OneText.{one_entry}
use Rattle.desk_events.proofs.laws.one_entry.Goals as goal

pub returns : goal.returns
returns c = one_entry
