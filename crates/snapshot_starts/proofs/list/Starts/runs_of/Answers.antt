use Rattle.std.proofs.Common.{◌≡◌, ℕ, ◌+◌, ◌-◌, ◌≤◌, List, nat_le, sym, ◌∙◌, ap, subst, arith}
use Rattle.std.specs.List.Sorted.{IsNonDecreasingBy}
use Rattle.plan_base.specs.declared.claim.Placement.{Placement}
use Rattle.snapshot_starts.specs.declared.run.Run.{Run}
use Rattle.snapshot_starts.specs.Runs.{AreRuns, starts_with}
use Rattle.snapshot_starts.specs.Kept.{HoldsBelow}
use Rattle.snapshot_starts.proofs.RunParts.{runs_with, part_with, requests_rise, are_runs_of_part, no_fewer}
use Rattle.snapshot_starts.proofs.list.Starts.runs_of.Goals as goal

abbrev some_run : Run
some_run = record { request = record { 0 = 0 }; telescope = record { 0 = 0 }; first = record { 0 = 0 }; count = 0 }

pub count_before-from-requires : goal.count_before-from-requires
count_before-from-requires c = subst (λ (runs : List Run). IsNonDecreasingBy (λ (run : Run). run.request.0) runs) (sym c.as_slice-runs.ensures.value)
    (requests_rise c.self.inside.runs.items c.self.invariant.can_keep.order)

pub count_through-to-requires : goal.count_through-to-requires
count_through-to-requires c = subst (λ (runs : List Run). IsNonDecreasingBy (λ (run : Run). run.request.0) runs) (sym c.as_slice-runs.ensures.value)
    (requests_rise c.self.inside.runs.items c.self.invariant.can_keep.order)

pub part_of-requires-clause-order : goal.part_of-requires-clause-order
part_of-requires-clause-order c =
    no_fewer (λ (run : Run). run.request.0) c.as_slice-runs.result.now c.args.request.0 c.count_before-from.result c.count_through-to.result some_run
    c.count_before-from.ensures.within c.count_before-from.ensures.counted c.count_through-to.ensures.counted

pub returns : goal.returns
returns c =
    let runs : List Run = c.as_slice-runs.result.now in
    let r : ℕ = c.args.request.0 in
    let from : ℕ = c.count_before-from.result in
    let to : ℕ = c.count_through-to.result in
    let order : from ≤ to = no_fewer (λ (run : Run). run.request.0) runs r from to some_run c.count_before-from.ensures.within
    c.count_before-from.ensures.counted c.count_through-to.ensures.counted in
    let high : HoldsBelow (λ (run : Run). nat_le run.request.0 r) runs (to - from + from) =
    subst (λ (n : ℕ). HoldsBelow (λ (run : Run). nat_le run.request.0 r) runs n) (omega arith) c.count_through-to.ensures.counted in
    let part : c.part_of.result.now ≡ runs_with c.self.inside.runs.items r = c.part_of.ensures
    ∙ part_with (λ (run : Run). run.request.0) runs r from (to - from) c.count_before-from.ensures.counted high
    ∙ ap (λ (rs : List Run). runs_with rs r) c.as_slice-runs.ensures.value in
    subst (AreRuns (starts_with c.args.self.now r)) (sym part)
    (subst (λ (starts : List Placement). AreRuns (starts_with starts r) (runs_with c.self.inside.runs.items r)) c.self.view_is
    (are_runs_of_part c.self.inside.runs.items r c.self.invariant.can_keep))
