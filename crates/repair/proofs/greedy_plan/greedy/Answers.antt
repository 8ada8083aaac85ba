use Rattle.std.proofs.Common.{◌≡◌, [], sym, ◌∙◌, subst}
use Rattle.std.proofs.lemmas.Result.{IfOk-weaker}
use Rattle.plan_base.specs.Feasible.{IsFeasible}
use Rattle.plan_base.specs.Saturated.{IsSaturated}
use Rattle.plan_base.specs.Fill.{IsFilled}
use Rattle.groups.specs.Building.{Building}
use Rattle.repair.proofs.greedy_plan.greedy.Goals as goal

pub returns-clause-feasible : goal.returns-clause-feasible
returns-clause-feasible c =
    let s = c.args.snapshot.now in
    let plan = c.fill.new.draft.placed in
    let filled : IsFilled s [] plan = subst (λ (b : Building). IsFilled b.snapshot b.placed plan) c.in_ok-draft.ensures c.fill.ensures.filled in
    IfOk-weaker c.from_slice.result (λ v. v.items ≡ c.placed.result.now) (λ v. IsFeasible s v.items)
    (λ v is. subst (IsFeasible s) (sym (is ∙ c.placed.ensures.value))
    (c.filled_is_saturated.ensures.feasible [] plan c.empty_is_feasible.ensures filled)) c.from_slice.ensures.items

pub returns-clause-saturated : goal.returns-clause-saturated
returns-clause-saturated c =
    let s = c.args.snapshot.now in
    let plan = c.fill.new.draft.placed in
    let filled : IsFilled s [] plan = subst (λ (b : Building). IsFilled b.snapshot b.placed plan) c.in_ok-draft.ensures c.fill.ensures.filled in
    IfOk-weaker c.from_slice.result (λ v. v.items ≡ c.placed.result.now) (λ v. IsSaturated s v.items)
    (λ v is. subst (IsSaturated s) (sym (is ∙ c.placed.ensures.value)) (c.filled_is_saturated.ensures.saturated [] plan filled)) c.from_slice.ensures.items
