use Rattle.std.proofs.Common.{All, take}
use Rattle.plan_base.specs.Starts.{IsPossibleStart}
use Rattle.plan_tests.proofs.repair_tests.repairs.are_possible.Given as goal

abbrev pub invariant-loop-start : goal.invariant-loop-start
invariant-loop-start l = All (IsPossibleStart l.snapshot) (take l.start-index l.starts)
