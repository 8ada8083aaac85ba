use Rattle.desk_calendar.proofs.Histories.{sites_told_so}
use Rattle.desk_calendar.proofs.Usable.{nights_told_so, of_sites_told}
use Rattle.desk_calendar.proofs.laws.nights_are_told.Goals as goal

pub returns : goal.returns
returns c = record { sites = sites_told_so; nights = nights_told_so; others = of_sites_told }
