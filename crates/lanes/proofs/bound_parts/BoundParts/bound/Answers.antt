use Rattle.std.proofs.Common.{length, All, sym, subst, arith}
use Rattle.std.proofs.lemmas.Grind.{common_steps}
use Rattle.plan_base.specs.Sums.{AreParts}
use Rattle.plan_base.specs.Bound.{IsBest}
use Rattle.plan_base.specs.NetPrices.{IsNetInRange}
use Rattle.groups.proofs.NetRanges.{nets_in_range}
use Rattle.lanes.proofs.bound_parts.BoundParts.bound.Goals as goal

pub net-requires-clause-range : goal.net-requires-clause-range
net-requires-clause-range c = nets_in_range c.args.snapshot.now c.args.prices.now.0 c.args.quota_prices.now.0 c.recall_valid.ensures.orderly
    c.requires.range c.requires.quota_range

pub write_rebates-requires-clause-range : goal.write_rebates-requires-clause-range
write_rebates-requires-clause-range c =
    subst (All IsNetInRange) (sym c.net.ensures)
    (nets_in_range c.args.snapshot.now c.args.prices.now.0 c.args.quota_prices.now.0 c.recall_valid.ensures.orderly c.requires.range c.requires.quota_range)

pub bound_of-requires-clause-bests : goal.bound_of-requires-clause-bests
bound_of-requires-clause-bests c =
    subst (AreParts (length c.args.snapshot.now.telescopes) (λ t. IsBest c.args.snapshot.now c.args.prices.now.0 t c.args.snapshot.now.first.0))
    (sym c.as_slice.ensures.value) c.requires.bests

pub write_rebates-requires-clause-count : goal.write_rebates-requires-clause-count
write_rebates-requires-clause-count c = grind (arith, common_steps)

pub bound_of-requires-clause-rebates : goal.bound_of-requires-clause-rebates
bound_of-requires-clause-rebates c = grind (arith, common_steps)

pub bound_of-requires-clause-quotas : goal.bound_of-requires-clause-quotas
bound_of-requires-clause-quotas c = grind (arith, common_steps)

pub bound_of-requires-clause-least : goal.bound_of-requires-clause-least
bound_of-requires-clause-least c = grind (arith, common_steps)

pub bound_of-requires-clause-quotas_least : goal.bound_of-requires-clause-quotas_least
bound_of-requires-clause-quotas_least c = grind (arith, common_steps)

pub returns-clause-room : goal.returns-clause-room
returns-clause-room c = grind (arith, common_steps)
