use Rattle.std.proofs.Common.{◌*◌}
use Rattle.interval_solver.specs.Filling.{AreFilledFrom}
use Rattle.interval_solver.proofs.table.fill.Given as goal

abbrev pub invariant-loop-block : goal.invariant-loop-block
invariant-loop-block g l = AreFilledFrom g.row.L l.rows l.prices l.table (4 * l.block)
