use Rattle.desk_runs.proofs.Commuting.{withdrawal_commutes}
use Rattle.desk_runs.proofs.laws.a_withdrawal_commutes.Goals as goal

pub returns : goal.returns
returns c = withdrawal_commutes
