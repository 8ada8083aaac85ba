use Rattle.interval_solver.specs.Blocks.{AreSingles}
use Rattle.interval_solver.proofs.blocks.singles_of.Given as goal

abbrev pub invariant-loop-slice : goal.invariant-loop-slice
invariant-loop-slice l = AreSingles l.rows l.wholes l.singles l.slice
