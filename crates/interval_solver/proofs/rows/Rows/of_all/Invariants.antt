use Rattle.interval_solver.specs.Solving.{AreRowsOf}
use Rattle.interval_solver.proofs.rows.Rows.of_all.Given as goal

abbrev pub invariant-loop-telescope : goal.invariant-loop-telescope
invariant-loop-telescope l = AreRowsOf l.snapshot l.telescope l.rows.items
