use Rattle.desk_accounts.proofs.Histories.{holds_covered}
use Rattle.desk_accounts.proofs.laws.holds_are_covered.Goals as goal

pub returns : goal.returns
returns c = holds_covered
