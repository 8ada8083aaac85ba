use Rattle.std.proofs.Common.{arith}
use Rattle.repair.proofs.Valued.{value_more}
use Rattle.lanes.proofs.worth.value_of.Goals as goal

pub loop-start-preserved : goal.loop-start-preserved
loop-start-preserved c = (
  value_more c.args.snapshot.now c.args.plan.now c.loop-start.start-index _ c.loop-start.value c.worth_of-value.result _ c.loop-start-test.true
      c.worth_of-value.ensures.value c.loop-start.invariant.0,
  let most = c.worth_of-value.ensures.most in let so_far = c.loop-start.invariant.1 in omega arith,
)
