use Rattle.plan_base.proofs.Limits.{bound_limit}
use Rattle.plan_base.proofs.laws.bound_limit.Goals as goal

pub returns-clause-least : goal.returns-clause-least
returns-clause-least c = λ bound is_bound.
    (bound_limit c.args.snapshot.now c.args.prices.now.0 c.args.quota_prices.now.0 bound c.recall_valid.ensures.orderly c.requires.prices
    c.requires.quota_prices is_bound).0

pub returns-clause-most : goal.returns-clause-most
returns-clause-most c = λ bound is_bound.
    (bound_limit c.args.snapshot.now c.args.prices.now.0 c.args.quota_prices.now.0 bound c.recall_valid.ensures.orderly c.requires.prices
    c.requires.quota_prices is_bound).1
