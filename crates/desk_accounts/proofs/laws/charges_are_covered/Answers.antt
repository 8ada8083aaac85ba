use Rattle.desk_accounts.proofs.Histories.{charges_covered}
use Rattle.desk_accounts.proofs.laws.charges_are_covered.Goals as goal

pub returns : goal.returns
returns c = charges_covered
