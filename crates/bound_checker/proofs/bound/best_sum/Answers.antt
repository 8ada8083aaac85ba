use Rattle.std.proofs.Common.{rules, ◌≡◌, ℕ, ◌+◌, ◌*◌, ◌<◌, ◌≤◌, ℤ, pos, ◌+ℤ◌, ◌≤ℤ◌, length, ap, subst, ◌∙◌, arith, w64}
use Rattle.std.proofs.lemmas.Int.{ints, to_z-of_z}
use Rattle.plan_base.specs.declared.parts.Parts.{Parts}
use Rattle.plan_base.specs.Bound.{IsBest}
use Rattle.plan_base.proofs.Limits.{best_between}
use Rattle.bound_checker.specs.Summed.{IsSummed}
use Rattle.bound_checker.proofs.Summing.{summed_more, sum_fits, few_telescopes}
use Rattle.bound_checker.proofs.bound.best_sum.Goals as goal
use mir.Val.{SFits}

pub overflow_add-sum : goal.overflow_add-sum
overflow_add-sum c =
    let count : c.len-telescope-end.result ≡ length c.args.snapshot.now.telescopes = c.len-telescope-end.ensures
    ∙ ap (λ (s : Parts). length s.telescopes) c.parts.ensures.value in
    let few : length c.args.snapshot.now.telescopes ≤ 32 = few_telescopes c.args.snapshot.now c.parts.ensures.orderly in
    let range = best_between c.args.snapshot.now c.args.prices.now.0 c.loop-telescope.telescope c.args.snapshot.now.first.0 c.in_ok-best.best
    c.parts.ensures.orderly c.requires.range c.in_ok-best.ensures in
    let low : pos 0 ≤ℤ c.in_ok-best.best = range.0 in
    let high : c.in_ok-best.best ≤ℤ pos 1440414720000000 = range.1 in
    let least : pos 0 ≤ℤ c.loop-telescope.sum.value = c.loop-telescope.invariant.least in
    let most : c.loop-telescope.sum.value ≤ℤ pos (c.loop-telescope.telescope * 1440414720000000) = c.loop-telescope.invariant.most in
    let kept : SFits w64 c.loop-telescope.sum.value = sum_fits _ least (omega (arith, ints)) in
    let part : SFits w64 c.in_ok-best.best = sum_fits _ low (omega (arith, ints)) in
    let whole : SFits w64 (c.loop-telescope.sum.value +ℤ c.in_ok-best.best) = sum_fits _ (omega (arith, ints)) (omega (arith, ints)) in
    simp to_z-of_z whole

pub loop-telescope-preserved : goal.loop-telescope-preserved
loop-telescope-preserved c =
    let count : c.len-telescope-end.result ≡ length c.args.snapshot.now.telescopes = c.len-telescope-end.ensures
    ∙ ap (λ (s : Parts). length s.telescopes) c.parts.ensures.value in
    let few : length c.args.snapshot.now.telescopes ≤ 32 = few_telescopes c.args.snapshot.now c.parts.ensures.orderly in
    let range = best_between c.args.snapshot.now c.args.prices.now.0 c.loop-telescope.telescope c.args.snapshot.now.first.0 c.in_ok-best.best
    c.parts.ensures.orderly c.requires.range c.in_ok-best.ensures in
    let low : pos 0 ≤ℤ c.in_ok-best.best = range.0 in
    let high : c.in_ok-best.best ≤ℤ pos 1440414720000000 = range.1 in
    let least : pos 0 ≤ℤ c.loop-telescope.sum.value = c.loop-telescope.invariant.least in
    let most : c.loop-telescope.sum.value ≤ℤ pos (c.loop-telescope.telescope * 1440414720000000) = c.loop-telescope.invariant.most in
    let kept : SFits w64 c.loop-telescope.sum.value = sum_fits _ least (omega (arith, ints)) in
    let part : SFits w64 c.in_ok-best.best = sum_fits _ low (omega (arith, ints)) in
    let whole : SFits w64 (c.loop-telescope.sum.value +ℤ c.in_ok-best.best) = sum_fits _ (omega (arith, ints)) (omega (arith, ints)) in
    simp to_z-of_z (summed_more c.loop-telescope.telescope (λ t. IsBest c.args.snapshot.now c.args.prices.now.0 t c.args.snapshot.now.first.0)
    1440414720000000 c.loop-telescope.sum.value c.in_ok-best.best c.loop-telescope.invariant c.in_ok-best.ensures range)

pub returns : goal.returns
returns c =
    let count : c.len-telescope-end.result ≡ length c.args.snapshot.now.telescopes = c.len-telescope-end.ensures
    ∙ ap (λ (s : Parts). length s.telescopes) c.parts.ensures.value in
    let few : length c.args.snapshot.now.telescopes ≤ 32 = few_telescopes c.args.snapshot.now c.parts.ensures.orderly in
    let all : c.loop-telescope.telescope ≡ length c.args.snapshot.now.telescopes = omega arith in
    let least : pos 0 ≤ℤ c.loop-telescope.sum.value = c.loop-telescope.invariant.least in
    let most : c.loop-telescope.sum.value ≤ℤ pos (c.loop-telescope.telescope * 1440414720000000) = c.loop-telescope.invariant.most in
    let kept : SFits w64 c.loop-telescope.sum.value = sum_fits _ least (omega (arith, ints)) in
    simp to_z-of_z (subst (λ (n : ℕ). IsSummed n (λ t. IsBest c.args.snapshot.now c.args.prices.now.0 t c.args.snapshot.now.first.0) 1440414720000000
    c.loop-telescope.sum.value) all c.loop-telescope.invariant)
