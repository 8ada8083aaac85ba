use Rattle.std.proofs.Common.{◌≡◌, ℕ, ◌-◌, ◌+◌, ◌^◌, ◌<◌, List, slice_index_or, refl, sym, subst, arith}
use Rattle.std.specs.List.Sorted.{IsNonDecreasingBy}
use Rattle.plan_base.specs.declared.claim.Placement.{Placement}
use Rattle.snapshot_starts.specs.Runs.{start_at}
use Rattle.snapshot_starts.proofs.RunSums.{sums_rise, stands_at, start_there, slice_fits}
use Rattle.snapshot_starts.proofs.list.Starts.at.Goals as goal

pub count_up_to-place-requires : goal.count_up_to-place-requires
count_up_to-place-requires c = subst (IsNonDecreasingBy (λ (sum : ℕ). sum)) (sym c.as_slice-sums.ensures.value)
    (sums_rise c.self.inside.runs.items c.self.inside.sums.items c.self.invariant.are_sums)

pub index-run-requires : goal.index-run-requires
index-run-requires c =
    let stands = stands_at c.self.inside.runs.items c.self.inside.sums.items c.as_slice-sums.result.now c.args.self.now c.args.index
    c.count_up_to-place.result _ c.self.invariant.are_sums c.as_slice-sums.ensures.value c.self.view_is
    c.count_up_to-place.ensures c.requires refl in
    omega (arith, stands.within, c.self.inside.runs.ok.0)

pub overflow_cast-result : goal.overflow_cast-result
overflow_cast-result c =
    let stands = stands_at c.self.inside.runs.items c.self.inside.sums.items c.as_slice-sums.result.now c.args.self.now c.args.index
    c.count_up_to-place.result _ c.self.invariant.are_sums c.as_slice-sums.ensures.value c.self.view_is c.count_up_to-place.ensures
    c.requires c.sum_before.ensures in
    let fits : c.index-run.result.now.first.0 + (c.args.index - c.sum_before.result) < 2 ^ 32 =
    slice_fits c.self.inside.runs.items c.args.index c.count_up_to-place.result c.sum_before.result c.index-run.result.now
    c.self.invariant.can_keep stands c.index-run.ensures in
    omega arith

pub overflow_add-result : goal.overflow_add-result
overflow_add-result c =
    let stands = stands_at c.self.inside.runs.items c.self.inside.sums.items c.as_slice-sums.result.now c.args.self.now c.args.index
    c.count_up_to-place.result _ c.self.invariant.are_sums c.as_slice-sums.ensures.value c.self.view_is c.count_up_to-place.ensures
    c.requires c.sum_before.ensures in
    let fits : c.index-run.result.now.first.0 + (c.args.index - c.sum_before.result) < 2 ^ 32 =
    slice_fits c.self.inside.runs.items c.args.index c.count_up_to-place.result c.sum_before.result c.index-run.result.now
    c.self.invariant.can_keep stands c.index-run.ensures in
    omega arith

pub returns : goal.returns
returns c = λ d.
    let stands = stands_at c.self.inside.runs.items c.self.inside.sums.items c.as_slice-sums.result.now c.args.self.now c.args.index
    c.count_up_to-place.result _ c.self.invariant.are_sums c.as_slice-sums.ensures.value c.self.view_is c.count_up_to-place.ensures
    c.requires c.sum_before.ensures in
    subst (λ (starts : List Placement). slice_index_or starts c.args.index d ≡ start_at c.index-run.result.now
    (c.index-run.result.now.first.0 + (c.args.index - c.sum_before.result))) c.self.view_is
    (start_there c.self.inside.runs.items c.args.index c.count_up_to-place.result c.sum_before.result c.index-run.result.now d
    stands c.index-run.ensures)
