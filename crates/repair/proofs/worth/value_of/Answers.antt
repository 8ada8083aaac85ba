use Rattle.std.proofs.Common.{◌∙◌, arith}
use Rattle.repair.proofs.Valued.{value_more}
use Rattle.repair.proofs.worth.value_of.Goals as goal

pub loop-start-preserved : goal.loop-start-preserved
loop-start-preserved c = (
  value_more c.args.snapshot.now c.args.plan.now c.loop-start.start-index _ c.loop-start.value c.from-value.result _ c.loop-start-test.true
      (c.from-value.ensures ∙ c.worth_of.ensures.value) c.loop-start.invariant.0,
  let most = c.worth_of.ensures.most in
      let from = c.from-value.ensures in
      let so_far = c.loop-start.invariant.1 in
      omega arith,
)

pub offer_of-offer-requires-clause-known : goal.offer_of-offer-requires-clause-known
offer_of-offer-requires-clause-known c = (c.requires.possible c.loop-start.start-index _ c.loop-start-test.true).known
