use Rattle.desk_accounts.proofs.Histories.{legal_told}
use Rattle.desk_accounts.proofs.laws.desks_are_kept.Goals as goal

pub returns : goal.returns
returns c = λ scripts history h. (legal_told scripts history h).desk
