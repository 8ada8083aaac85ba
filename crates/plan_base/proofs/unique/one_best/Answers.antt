use Rattle.plan_base.proofs.Single.{one_best}
use Rattle.plan_base.proofs.unique.one_best.Goals as goal

pub returns : goal.returns
returns c = λ t k a b h g. one_best c.args.snapshot.now c.args.prices.now.0 t k a b h g
