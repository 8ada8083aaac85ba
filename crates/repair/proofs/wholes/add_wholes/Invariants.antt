use Rattle.std.proofs.Common.{◌≡◌, List, drop}
use Rattle.plan_base.specs.declared.claim.Placement.{Placement}
use Rattle.plan_base.specs.Feasible.{IsFeasible}
use Rattle.plan_base.specs.Repaired.{AddsWholes, group_places}
use Rattle.repair.specs.Firsts.{AreFirsts}
use Rattle.repair.proofs.wholes.add_wholes.Given as goal

abbrev pub invariant-loop-group : goal.invariant-loop-group
invariant-loop-group l = record {
  same : l.draft.snapshot ≡ l.fn.draft.snapshot;
  feasible : IsFeasible l.fn.draft.snapshot l.draft.placed;
  adds : (starts : List Placement) → AreFirsts l.fn.draft.snapshot starts l.firsts → (after : List Placement)
      → AddsWholes l.fn.draft.snapshot starts l.draft.placed (drop l.group (group_places l.fn.draft.snapshot)) after
      → AddsWholes l.fn.draft.snapshot starts l.fn.draft.placed (group_places l.fn.draft.snapshot) after;
}
