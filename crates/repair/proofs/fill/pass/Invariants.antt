use Rattle.std.proofs.Common.{◌≡◌, List, drop}
use Rattle.plan_base.specs.declared.claim.Placement.{Placement}
use Rattle.plan_base.specs.Fill.{VisitsEach}
use Rattle.repair.specs.Steps.{AddsSome}
use Rattle.repair.proofs.fill.pass.Given as goal

abbrev pub invariant-loop-group : goal.invariant-loop-group
invariant-loop-group l = record {
  same : l.draft.snapshot ≡ l.fn.draft.snapshot;
  visits : (after : List Placement) → VisitsEach l.fn.draft.snapshot l.draft.placed (drop l.group-index l.trials.order.items) after
      → VisitsEach l.fn.draft.snapshot l.fn.draft.placed l.trials.order.items after;
  added : AddsSome l.added l.fn.draft.placed l.draft.placed;
}
