use Rattle.std.proofs.Common.{pos, ◌+ℤ◌, ◌<ℤ◌, sym, subst, arith}
use Rattle.std.proofs.lemmas.Int.{ints}
use Rattle.plan_base.specs.Limits.{bound_limit}
use Rattle.plan_base.specs.Sums.{sum_of}
use Rattle.plan_base.specs.Bound.{IsBound}
use Rattle.lanes.proofs.Parts.{bests_least}
use Rattle.lanes.proofs.bound_parts.bound_of.Goals as goal

pub lagrangian-requires-clause-bests : goal.lagrangian-requires-clause-bests
lagrangian-requires-clause-bests c =
    bests_least c.args.snapshot.now c.args.prices.now.0 c.args.bests.now c.recall_valid.ensures.orderly c.requires.range c.requires.bests

pub lagrangian-requires-clause-most : goal.lagrangian-requires-clause-most
lagrangian-requires-clause-most c =
    let below : (sum_of c.args.bests.now +ℤ sum_of c.args.rebates.now +ℤ sum_of c.args.quotas.now) <ℤ pos bound_limit
    = c.bound_limit.ensures.most _ (c.bound_of_parts.ensures c.args.bests.now c.args.rebates.now c.args.quotas.now c.requires.bests
    c.requires.rebates c.requires.quotas)
    in
    omega (arith, ints, below)

pub returns : goal.returns
returns c =
    subst (IsBound c.args.snapshot.now c.args.prices.now.0 c.args.quota_prices.now.0) (sym c.lagrangian.ensures)
    (c.bound_of_parts.ensures c.args.bests.now c.args.rebates.now c.args.quotas.now c.requires.bests c.requires.rebates c.requires.quotas)
