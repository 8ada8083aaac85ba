use Rattle.explain.specs.Steps.{IsFilledTo}
use Rattle.explain.proofs.until.fill_until.Given as goal

abbrev pub invariant-loop-slice : goal.invariant-loop-slice
invariant-loop-slice l = IsFilledTo l.rows l.slice l.table
