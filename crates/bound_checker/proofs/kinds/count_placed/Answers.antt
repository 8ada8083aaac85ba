use Rattle.std.proofs.Common.{◌≡◌, ◌<◌, ◌≤◌, ◌==◌, ℕ, List, take, length, slice_index_or, arith, ◌∙◌, sym}
use Rattle.std.proofs.lemmas.Grind.{common_steps}
use Rattle.std.proofs.lemmas.List.{get_or_default, length-take}
use Rattle.std.proofs.lemmas.List.Sums.{count_by-le-length}
use Rattle.plan_base.specs.Requests.{group_of}
use Rattle.bound_checker.specs.Claims.{placed_in}
use Rattle.bound_checker.proofs.GroupCounts.{counts_more}
use Rattle.bound_checker.proofs.kinds.count_placed.Goals as goal

-- the count that is read is the one at the place
count_read : (counts : List ℕ) (g v n : ℕ) → length counts ≡ n → g < n → v ≡ slice_index_or counts g v → v ≡ slice_index_or counts g 0
count_read counts g v n e l read = read ∙ get_or_default counts g v 0 (omega arith)

pub overflow_add-index_mut : goal.overflow_add-index_mut
overflow_add-index_mut c =
    let s = c.args.snapshot.now in
    let g : ℕ = c.known_group-group.result in
    let read : c.index_mut.result.now ≡ slice_index_or c.loop-placement.counts.items g 0 =
    count_read c.loop-placement.counts.items g c.index_mut.result.now _ c.loop-placement.invariant.groups c.known_group-group.ensures.within
    c.index_mut.ensures.value in
    let told = c.loop-placement.invariant.each g in
    let most = count_by-le-length (λ p. group_of s p.request.0 == g) (take c.loop-placement.placement-index c.args.plan.now) in
    let part = length-take c.loop-placement.placement-index c.args.plan.now in
    omega arith

pub loop-placement-preserved : goal.loop-placement-preserved
loop-placement-preserved c =
    counts_more c.args.snapshot.now c.args.plan.now c.loop-placement.placement-index c.known_group-group.result c.index_mut.result.now
    c.loop-placement.counts.items c.loop-placement-test.true c.known_group-group.ensures.value
    c.known_group-group.ensures.within
    (count_read c.loop-placement.counts.items c.known_group-group.result c.index_mut.result.now _ c.loop-placement.invariant.groups
    c.known_group-group.ensures.within c.index_mut.ensures.value) c.loop-placement.invariant

pub loop-placement-init : goal.loop-placement-init
loop-placement-init c = grind (arith, common_steps)

pub returns : goal.returns
returns c = grind (arith, common_steps)
