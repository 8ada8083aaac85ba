use Rattle.std.proofs.Common.{List, IfOk, sym, ◌∙◌, ap, subst}
use Rattle.plan_base.specs.declared.claim.Placement.{Placement}
use Rattle.rapid.specs.Held.{plan_of}
use Rattle.rapid.specs.Stage.{IsStage}
use Rattle.rapid.specs.Placing.{IsPlacedSo}
use Rattle.rapid.proofs.Staged.{held_again, staged, sought_some, sought_none}
use Rattle.rapid.proofs.placing.place.Goals as goal

pub held_plan-requires : goal.held_plan-requires
held_plan-requires c = λ k d l. (c.requires.feasible.possible k d l).known

pub earliest-requires : goal.earliest-requires
earliest-requires c =
    subst (IsStage c.args.snapshot.now c.args.request.0) (sym c.as_slice.ensures.value)
    (staged c.args.snapshot.now c.args.plan.now c.args.request.0 c.known_quota.result c.in_ok-held.held.items c.recall_valid.ensures.orderly
    c.requires c.known_quota.ensures.value c.in_ok-held.ensures.value c.in_ok-held.ensures.places
    c.in_ok-held.ensures.worths c.in_ok-held.ensures.counts)

pub with_start-requires-clause-stage : goal.with_start-requires-clause-stage
with_start-requires-clause-stage c =
    subst (IsStage c.args.snapshot.now c.args.request.0) (sym c.as_slice-in-Some.ensures.value)
    (staged c.args.snapshot.now c.args.plan.now c.args.request.0 c.known_quota.result c.in_ok-held.held.items c.recall_valid.ensures.orderly
    c.requires c.known_quota.ensures.value c.in_ok-held.ensures.value c.in_ok-held.ensures.places
    c.in_ok-held.ensures.worths c.in_ok-held.ensures.counts)

pub with_start-requires-clause-earliest : goal.with_start-requires-clause-earliest
with_start-requires-clause-earliest c =
    sought_some c.args.snapshot.now c.as_slice.result.now c.as_slice-in-Some.result.now c.args.request.0 c.in_ok-found.field-0 c.in-Some.found
    c.in_ok-found.ensures c.in-Some.is (c.as_slice.ensures.value ∙ sym c.as_slice-in-Some.ensures.value)

pub without_start-requires-clause-none : goal.without_start-requires-clause-none
without_start-requires-clause-none c =
    sought_none c.args.snapshot.now c.as_slice.result.now c.args.plan.now c.args.request.0 c.in_ok-found.field-0 c.in_ok-found.ensures c.in-None.is
    (ap plan_of c.as_slice.ensures.value
    ∙ held_again c.args.snapshot.now c.known_quota.result c.args.plan.now c.in_ok-held.held.items c.in_ok-held.ensures.value)

pub returns-in-Some : goal.returns-in-Some
returns-in-Some c =
    subst (λ (xs : List Placement). IfOk c.with_start.result (IsPlacedSo c.args.snapshot.now xs c.args.request.0))
    (ap plan_of c.as_slice-in-Some.ensures.value
    ∙ held_again c.args.snapshot.now c.known_quota.result c.args.plan.now c.in_ok-held.held.items c.in_ok-held.ensures.value) c.with_start.ensures
