use Rattle.desk_calendar.proofs.Histories.{telescopes_told_so, numbers_told}
use Rattle.desk_calendar.proofs.laws.telescopes_are_told.Goals as goal

pub returns : goal.returns
returns c = record { telescopes = telescopes_told_so; numbers = numbers_told }
