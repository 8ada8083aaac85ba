use Rattle.explain.specs.Steps.{IsForward}
use Rattle.explain.proofs.Raising.{IsPassed}
use Rattle.explain.proofs.until.pass_slice.Given as goal

abbrev pub invariant-loop-start : goal.invariant-loop-start
invariant-loop-start l = IsForward l.rows (IsPassed l.rows l.slice l.row l.start-index) l.table
