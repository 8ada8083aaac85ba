use Rattle.desk_calendar.proofs.Usable.{skies_told_so, of_targets_told}
use Rattle.desk_calendar.proofs.laws.skies_are_told.Goals as goal

pub returns : goal.returns
returns c = record { skies = skies_told_so; others = of_targets_told }
