use Rattle.desk_accounts.proofs.Histories.{balances_told}
use Rattle.desk_accounts.proofs.laws.balances_are_told.Goals as goal

pub returns : goal.returns
returns c = balances_told
