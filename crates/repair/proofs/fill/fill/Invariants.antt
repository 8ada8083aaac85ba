use Rattle.std.proofs.Common.{◌≡◌, ◌-◌, List, length}
use Rattle.plan_base.specs.declared.claim.Placement.{Placement}
use Rattle.plan_base.specs.Fill.{IsFilled}
use Rattle.repair.proofs.fill.fill.Given as goal

abbrev pub invariant-loop : goal.invariant-loop
invariant-loop l = record {
  same : l.draft.snapshot ≡ l.fn.draft.snapshot;
  fills : (after : List Placement) → IsFilled l.fn.draft.snapshot l.draft.placed after → IsFilled l.fn.draft.snapshot l.fn.draft.placed after;
}

abbrev pub decreases-loop : goal.decreases-loop
decreases-loop l = 1025 - length l.draft.placed
