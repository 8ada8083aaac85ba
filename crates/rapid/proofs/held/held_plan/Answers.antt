use Rattle.std.proofs.Common.{◌≤◌, length, arith}
use Rattle.std.proofs.lemmas.Grind.{common_steps}
use Rattle.rapid.specs.Held.{HasPlaceBelow}
use Rattle.rapid.proofs.Steps.{mapped_more, all_more}
use Rattle.rapid.proofs.held.held_plan.Goals as goal

pub loop-placement-preserved : goal.loop-placement-preserved
loop-placement-preserved c = (
  mapped_more c.args.snapshot.now c.args.quota c.args.plan.now c.loop-placement.placement-index _ c.loop-placement.held.items c.push.new.self.items
      c.held_of.result c.loop-placement-test.true c.loop-placement.invariant.0 c.held_of.ensures.value c.in_ok-push.ensures.items,
  all_more (HasPlaceBelow (length c.args.snapshot.now.groups)) c.loop-placement.held.items c.push.new.self.items c.held_of.result
      c.loop-placement.invariant.1 c.held_of.ensures.place c.in_ok-push.ensures.items,
  all_more (λ h. h.worth ≤ 288000000) c.loop-placement.held.items c.push.new.self.items c.held_of.result c.loop-placement.invariant.2
      c.held_of.ensures.worth c.in_ok-push.ensures.items,
  all_more (λ h. h.counted ≤ 86400) c.loop-placement.held.items c.push.new.self.items c.held_of.result c.loop-placement.invariant.3
      c.held_of.ensures.counted c.in_ok-push.ensures.items,
)

pub returns-clause-value : goal.returns-clause-value
returns-clause-value c = grind (arith, common_steps)
