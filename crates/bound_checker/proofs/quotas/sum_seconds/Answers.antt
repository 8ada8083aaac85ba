use Rattle.std.proofs.Common.{sym, ◌∙◌, arith}
use Rattle.std.proofs.lemmas.Grind.{common_steps}
use Rattle.bound_checker.proofs.QuotaSums.{sums_more}
use Rattle.bound_checker.proofs.quotas.sum_seconds.Goals as goal

pub loop-placement-preserved : goal.loop-placement-preserved
loop-placement-preserved c =
    sums_more c.args.snapshot.now c.args.plan.now c.loop-placement.placement-index c.from.result c.known_quota-quota.result
    c.loop-placement.sums.items c.add_seconds.new.sums.items c.loop-placement-test.true c.known_quota-quota.ensures.value
    (c.from.ensures ∙ sym c.request_of.ensures.is.seconds) (let most = c.request_of.ensures.ranges.most_seconds in let is = c.from.ensures in
    omega arith) c.add_seconds.ensures.count c.add_seconds.ensures.added c.loop-placement.invariant

pub loop-placement-init : goal.loop-placement-init
loop-placement-init c = grind (arith, common_steps)

pub returns : goal.returns
returns c = grind (arith, common_steps)
