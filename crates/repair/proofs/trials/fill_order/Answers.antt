use Rattle.std.proofs.Common.{◌∙◌, ◌≤◌, List, map, All, sym, ap, subst}
use Rattle.std.proofs.lemmas.Result.{IfOk-weaker}
use Rattle.plan_base.specs.declared.parts.Parts.{Parts}
use Rattle.plan_base.specs.declared.parts.GroupPart.{GroupPart}
use Rattle.plan_base.specs.Fill.{worth_of_group, IsFillOrder}
use Rattle.repair.specs.Orders.{IsFallingOrder}
use Rattle.repair.proofs.Made.{values_in_groups, fill_from_falling}
use Rattle.repair.proofs.trials.fill_order.Goals as goal

pub group_worths-requires-clause-values : goal.group_worths-requires-clause-values
group_worths-requires-clause-values c =
    subst (λ (xs : List GroupPart). All (λ x. All (λ q. q.value ≤ 288000000) x.requests) xs)
    (sym (c.as_slice.ensures ∙ ap (λ (p : Parts). p.groups) c.parts.ensures.value))
    (values_in_groups c.args.snapshot.now c.recall_valid.ensures.orderly)

pub returns : goal.returns
returns c = IfOk-weaker c.falling_order.result (λ order. IsFallingOrder c.deref.result.now order.items) (λ order. IsFillOrder c.args.snapshot.now order.items)
    (λ order falls. fill_from_falling c.args.snapshot.now c.deref.result.now order.items
    (c.deref.ensures.value ∙ c.in_ok-worths.ensures
    ∙ ap (map worth_of_group) (c.as_slice.ensures ∙ ap (λ (p : Parts). p.groups) c.parts.ensures.value)) falls) c.falling_order.ensures
