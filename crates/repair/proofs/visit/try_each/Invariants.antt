use Rattle.std.proofs.Common.{◌≡◌, List, drop}
use Rattle.plan_base.specs.declared.claim.Placement.{Placement}
use Rattle.plan_base.specs.Fill.{TriesEach}
use Rattle.repair.specs.Entries.{numbers_of}
use Rattle.repair.specs.Steps.{AddsSome}
use Rattle.repair.proofs.visit.try_each.Given as goal

abbrev pub invariant-loop-entry : goal.invariant-loop-entry
invariant-loop-entry l = record {
  same : l.draft.snapshot ≡ l.fn.draft.snapshot;
  tries : (after : List Placement) → TriesEach l.fn.draft.snapshot l.draft.placed (numbers_of (drop l.entry-index l.entries)) after
      → TriesEach l.fn.draft.snapshot l.fn.draft.placed (numbers_of l.entries) after;
  added : AddsSome l.added l.fn.draft.placed l.draft.placed;
}
