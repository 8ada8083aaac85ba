use Rattle.std.proofs.Common.{take}
use Rattle.interval_solver.specs.Blocks.{AreSinglesOf}
use Rattle.interval_solver.proofs.blocks.list_singles.Given as goal

abbrev pub invariant-loop-start : goal.invariant-loop-start
invariant-loop-start l = AreSinglesOf (take l.start-index l.row) l.wholes l.slices l.found.items
