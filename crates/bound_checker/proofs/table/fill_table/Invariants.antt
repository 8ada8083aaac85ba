use Rattle.bound_checker.proofs.Filling.{IsFilledFrom}
use Rattle.bound_checker.proofs.table.fill_table.Given as goal

abbrev pub invariant-loop-slice : goal.invariant-loop-slice
invariant-loop-slice l = IsFilledFrom l.rows l.table l.slice
