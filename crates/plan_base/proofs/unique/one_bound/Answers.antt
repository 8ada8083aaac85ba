use Rattle.plan_base.proofs.Single.{one_bound}
use Rattle.plan_base.proofs.unique.one_bound.Goals as goal

pub returns : goal.returns
returns c = λ a b h g. one_bound c.args.snapshot.now c.args.prices.now.0 c.args.quota_prices.now.0 a b h g
