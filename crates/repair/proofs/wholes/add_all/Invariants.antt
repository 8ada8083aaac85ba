use Rattle.std.proofs.Common.{◌≡◌, List, length}
use Rattle.plan_base.specs.declared.claim.Placement.{Placement}
use Rattle.repair.specs.Firsts.{AreFirsts}
use Rattle.repair.proofs.Adding.{IsAdded, IsGrown}
use Rattle.repair.proofs.wholes.add_all.Given as goal

abbrev pub invariant-loop-entry : goal.invariant-loop-entry
invariant-loop-entry l = record {
  same : l.draft.snapshot ≡ l.fn.draft.snapshot;
  count : l.count ≡ length l.fn.draft.placed;
  grown : IsGrown l.fn.draft.placed l.draft.placed l.entries l.entry-index;
  added : (starts : List Placement) → AreFirsts l.fn.draft.snapshot starts l.firsts
      → IsAdded l.fn.draft.snapshot starts l.fn.draft.placed l.draft.placed l.entries l.entry-index;
}
