use Rattle.repair.specs.Marks.{IsClear}
use Rattle.repair.proofs.marks.mark_within.Given as goal

abbrev pub invariant-loop-slot : goal.invariant-loop-slot
invariant-loop-slot l = IsClear l.marks l.slot l.to
