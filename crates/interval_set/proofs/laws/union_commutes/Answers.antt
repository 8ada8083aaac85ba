use Rattle.interval_set.proofs.OneList.{union_commutes}
use Rattle.interval_set.proofs.laws.union_commutes.Goals as goal

pub returns : goal.returns
returns c = union_commutes
