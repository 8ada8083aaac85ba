use Rattle.std.proofs.Common.{arith}
use Rattle.plan_tests.proofs.InOrder.{in_order_more, disjoint_in_order}
use Rattle.plan_tests.proofs.repair_tests.repairs.are_apart.Goals as goal

pub loop-index-preserved : goal.loop-index-preserved
loop-index-preserved c =
    in_order_more c.args.snapshot.now c.args.starts.now c.loop-index.index _ c.of-before.result.to c.of-after.result.from (omega arith)
    (omega arith) c.of-before.ensures.to c.of-after.ensures.from (omega arith) c.loop-index.invariant

pub returns : goal.returns
returns c = λ yes. disjoint_in_order c.args.snapshot.now c.args.starts.now c.loop-index.index c.requires.possible (omega arith) c.loop-index.invariant
