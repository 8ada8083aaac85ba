use Rattle.bound_checker.proofs.SlotFlags.{AreFlags}
use Rattle.bound_checker.proofs.overlap.first_overlap.Given as goal

abbrev pub invariant-loop-index : goal.invariant-loop-index
invariant-loop-index l = AreFlags l.snapshot l.plan l.index l.occupied.items
