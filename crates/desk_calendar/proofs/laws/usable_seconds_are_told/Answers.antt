use Rattle.desk_calendar.proofs.Usable.{usable_told, by_number_told}
use Rattle.desk_calendar.proofs.laws.usable_seconds_are_told.Goals as goal

pub returns : goal.returns
returns c = record { told = usable_told; by_number = by_number_told }
