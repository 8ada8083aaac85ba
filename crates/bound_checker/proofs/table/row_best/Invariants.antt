use Rattle.bound_checker.specs.Tables.{gain}
use Rattle.bound_checker.proofs.Filling.{IsMostOf}
use Rattle.bound_checker.proofs.table.row_best.Given as goal

abbrev pub invariant-loop-start : goal.invariant-loop-start
invariant-loop-start l = IsMostOf l.row (gain l.table) l.start-index l.least l.greatest.value
