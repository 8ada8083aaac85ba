use Rattle.desk_calendar.proofs.Histories.{closures_told}
use Rattle.desk_calendar.proofs.laws.closures_are_told.Goals as goal

pub returns : goal.returns
returns c = closures_told
