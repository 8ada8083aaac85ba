use Rattle.desk_book.proofs.StalePlans.{plans_are_stale_by_changes}
use Rattle.desk_book.proofs.laws.plans_are_stale_by_changes.Goals as goal

pub returns : goal.returns
returns c = plans_are_stale_by_changes
