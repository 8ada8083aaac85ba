use Rattle.plan_tests.proofs.InOrder.{AreInOrder}
use Rattle.plan_tests.proofs.repair_tests.repairs.are_apart.Given as goal

abbrev pub invariant-loop-index : goal.invariant-loop-index
invariant-loop-index l = AreInOrder l.snapshot l.starts l.index
