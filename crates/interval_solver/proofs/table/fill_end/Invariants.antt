use Rattle.interval_solver.specs.Filling.{AreFilledFrom}
use Rattle.interval_solver.proofs.table.fill_end.Given as goal

abbrev pub invariant-loop-slice : goal.invariant-loop-slice
invariant-loop-slice g l = AreFilledFrom g.row.L l.rows l.prices l.table l.slice
