use Rattle.plan_base.proofs.Duality.{duality}
use Rattle.plan_base.proofs.laws.weak_duality.Goals as goal

pub returns : goal.returns
returns c = λ plan bound feasible is_bound. duality c.args.snapshot.now c.args.prices.now.0 c.args.quota_prices.now.0 plan bound
    c.recall_valid.ensures.orderly feasible is_bound
