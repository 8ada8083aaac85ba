use Rattle.repair.proofs.Nearest.{IsOfFirst, IsEarliestOf}
use Rattle.repair.proofs.find.earliest.Given as goal

abbrev pub invariant-loop-run : goal.invariant-loop-run
invariant-loop-run l = IsEarliestOf l.draft.snapshot l.draft.placed (IsOfFirst l.entry.runs l.run-index) l.best
