use Rattle.std.proofs.Common.{◌≡◌, List, drop}
use Rattle.plan_base.specs.declared.claim.Placement.{Placement}
use Rattle.plan_base.specs.Fill.{TriesUntilOne}
use Rattle.repair.specs.Entries.{numbers_of}
use Rattle.repair.proofs.visit.try_until_one.Given as goal

abbrev pub invariant-loop-entry : goal.invariant-loop-entry
invariant-loop-entry l = record {
  same : l.draft.snapshot ≡ l.fn.draft.snapshot;
  none : l.draft.placed ≡ l.fn.draft.placed;
  tries : (after : List Placement) → TriesUntilOne l.fn.draft.snapshot l.fn.draft.placed (numbers_of (drop l.entry-index l.entries)) after
      → TriesUntilOne l.fn.draft.snapshot l.fn.draft.placed (numbers_of l.entries) after;
}
