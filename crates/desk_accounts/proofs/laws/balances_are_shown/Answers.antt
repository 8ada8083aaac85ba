use Rattle.desk_accounts.proofs.Printed.{balances_shown, grants_shown}
use Rattle.desk_accounts.proofs.laws.balances_are_shown.Goals as goal

pub returns : goal.returns
returns c = record { balances = balances_shown; grants = grants_shown }
