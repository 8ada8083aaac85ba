use Rattle.std.proofs.Common.{◌≡◌, List, map, drop}
use Rattle.plan_base.specs.declared.claim.Placement.{Placement}
use Rattle.plan_base.specs.Feasible.{IsFeasible}
use Rattle.plan_base.specs.Repaired.{AddsEach}
use Rattle.repair.specs.Repairs.{start_of}
use Rattle.repair.proofs.ranked.add_each.Given as goal

abbrev pub invariant-loop-rank : goal.invariant-loop-rank
invariant-loop-rank l = record {
  same : l.draft.snapshot ≡ l.fn.draft.snapshot;
  feasible : IsFeasible l.fn.draft.snapshot l.draft.placed;
  adds : (after : List Placement) → AddsEach l.fn.draft.snapshot l.draft.placed (drop l.rank-index (map start_of l.ranked)) after
      → AddsEach l.fn.draft.snapshot l.fn.draft.placed (map start_of l.ranked) after;
}
