use Rattle.interval_solver.specs.Blocks.{AreWholes}
use Rattle.interval_solver.proofs.blocks.wholes_of.Given as goal

abbrev pub invariant-loop-block : goal.invariant-loop-block
invariant-loop-block l = AreWholes l.rows l.wholes l.block
