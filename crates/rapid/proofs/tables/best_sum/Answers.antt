use Rattle.std.proofs.Common.{◌≡◌, ℕ, ◌+◌, ◌≤◌, ℤ, ◌+ℤ◌, length, subst, arith, w64}
use Rattle.std.proofs.lemmas.Int.{to_z-of_z}
use Rattle.plan_base.specs.Bound.{IsBest}
use Rattle.bound_checker.specs.Summed.{IsSummed}
use Rattle.bound_checker.proofs.Summing.{few_telescopes}
use Rattle.rapid.proofs.PartSums.{part_fits, bests_part, best_fits, best_more}
use Rattle.rapid.proofs.tables.best_sum.Goals as goal
use mir.Val.{SFits}

pub overflow_add-sum : goal.overflow_add-sum
overflow_add-sum c =
    let few : length c.args.snapshot.now.telescopes ≤ 32 = few_telescopes c.args.snapshot.now c.recall_valid.ensures.orderly in
    let count : length c.args.tables.now ≡ length c.args.snapshot.now.telescopes = c.requires.tables.count in
    let best : ℤ = c.first_entry.result in
    let is : IsBest c.args.snapshot.now c.args.prices.now.0 c.loop-telescope.telescope c.args.snapshot.now.first.0 best = c.first_entry.ensures in
    let kept : SFits w64 c.loop-telescope.sum.value = part_fits _ (bests_part c.loop-telescope.telescope _ _ (omega arith) c.loop-telescope.invariant) in
    let part : SFits w64 best = best_fits c.args.snapshot.now c.args.prices.now.0 c.recall_valid.ensures.orderly c.requires.range
    c.loop-telescope.telescope best is in
    let more : IsSummed (c.loop-telescope.telescope + 1) (λ t. IsBest c.args.snapshot.now c.args.prices.now.0 t c.args.snapshot.now.first.0)
    1440414720000000 (c.loop-telescope.sum.value +ℤ best) =
    best_more c.args.snapshot.now c.args.prices.now.0 c.recall_valid.ensures.orderly c.requires.range c.loop-telescope.telescope
    c.loop-telescope.sum.value best c.loop-telescope.invariant is in
    let whole : SFits w64 (c.loop-telescope.sum.value +ℤ best) = part_fits _ (bests_part (c.loop-telescope.telescope + 1) _ _ (omega arith) more) in
    simp to_z-of_z whole

pub loop-telescope-preserved : goal.loop-telescope-preserved
loop-telescope-preserved c =
    let few : length c.args.snapshot.now.telescopes ≤ 32 = few_telescopes c.args.snapshot.now c.recall_valid.ensures.orderly in
    let count : length c.args.tables.now ≡ length c.args.snapshot.now.telescopes = c.requires.tables.count in
    let best : ℤ = c.first_entry.result in
    let is : IsBest c.args.snapshot.now c.args.prices.now.0 c.loop-telescope.telescope c.args.snapshot.now.first.0 best = c.first_entry.ensures in
    let kept : SFits w64 c.loop-telescope.sum.value = part_fits _ (bests_part c.loop-telescope.telescope _ _ (omega arith) c.loop-telescope.invariant) in
    let part : SFits w64 best = best_fits c.args.snapshot.now c.args.prices.now.0 c.recall_valid.ensures.orderly c.requires.range
    c.loop-telescope.telescope best is in
    let more : IsSummed (c.loop-telescope.telescope + 1) (λ t. IsBest c.args.snapshot.now c.args.prices.now.0 t c.args.snapshot.now.first.0)
    1440414720000000 (c.loop-telescope.sum.value +ℤ best) =
    best_more c.args.snapshot.now c.args.prices.now.0 c.recall_valid.ensures.orderly c.requires.range c.loop-telescope.telescope
    c.loop-telescope.sum.value best c.loop-telescope.invariant is in
    let whole : SFits w64 (c.loop-telescope.sum.value +ℤ best) = part_fits _ (bests_part (c.loop-telescope.telescope + 1) _ _ (omega arith) more) in
    simp to_z-of_z more

pub returns : goal.returns
returns c =
    let few : length c.args.snapshot.now.telescopes ≤ 32 = few_telescopes c.args.snapshot.now c.recall_valid.ensures.orderly in
    let count : length c.args.tables.now ≡ length c.args.snapshot.now.telescopes = c.requires.tables.count in
    let all : c.loop-telescope.telescope ≡ length c.args.snapshot.now.telescopes = omega arith in
    let kept : SFits w64 c.loop-telescope.sum.value = part_fits _ (bests_part c.loop-telescope.telescope _ _ (omega arith) c.loop-telescope.invariant) in
    simp to_z-of_z (subst (λ (n : ℕ). IsSummed n (λ t. IsBest c.args.snapshot.now c.args.prices.now.0 t c.args.snapshot.now.first.0) 1440414720000000
    c.loop-telescope.sum.value) all c.loop-telescope.invariant)
