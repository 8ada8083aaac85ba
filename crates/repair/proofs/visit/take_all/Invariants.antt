use Rattle.std.proofs.Common.{◌≡◌, length}
use Rattle.repair.proofs.Visiting.{IsTaken}
use Rattle.repair.proofs.visit.take_all.Given as goal

abbrev pub invariant-loop-entry : goal.invariant-loop-entry
invariant-loop-entry l = record {
  same : l.draft.snapshot ≡ l.fn.draft.snapshot;
  count : l.count ≡ length l.fn.draft.placed;
  taken : IsTaken l.fn.draft.snapshot l.fn.draft.placed l.draft.placed l.entries l.entry-index;
}
