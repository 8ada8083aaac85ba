-- The sums that a bound is mended by: how they grow, and that they leave room for one another.
use Rattle.std.proofs.Common.{ℕ, ◌+◌, ◌*◌, ◌^◌, ◌≤◌, ℤ, pos, w64, ◌+ℤ◌, ◌≤ℤ◌, List, All, arith}
use Rattle.std.proofs.lemmas.Int.{ints}
use Rattle.plan_base.specs.declared.parts.Parts.{Parts}
use Rattle.plan_base.specs.Snapshot.{IsOrderly}
use Rattle.plan_base.specs.Bound.{IsBest}
use Rattle.plan_base.specs.Verdict.{IsPriceInRange}
use Rattle.plan_base.proofs.Limits.{best_between}
use Rattle.bound_checker.specs.Summed.{IsSummed, IsPartSum}
use Rattle.bound_checker.proofs.Summing.{summed_more, sum_fits}
use mir.Val.{SFits}

pub part_fits : (z : ℤ) → IsPartSum z → SFits w64 z
part_fits z h = let most : z ≤ℤ pos (2 * 10 ^ 18) = h.1 in sum_fits z h.0 (omega (arith, ints))

-- the bests of few telescopes
pub bests_part : (n : ℕ) (P : ℕ → ℤ → Type 0) (z : ℤ) → n ≤ 32 → IsSummed n P 1440414720000000 z → IsPartSum z
bests_part n P z few h = let most : z ≤ℤ pos (n * 1440414720000000) = h.most in (h.least, omega (arith, ints))

module _ (s : Parts) (prices : List ℤ) (o : IsOrderly s) (a : All IsPriceInRange prices) where
  pub best_fits : (t : ℕ) (b : ℤ) → IsBest s prices t s.first.0 b → SFits w64 b
  best_fits t b h =
      let range = best_between s prices t s.first.0 b o a h in
      let most : b ≤ℤ pos 1440414720000000 = range.1 in
      sum_fits b range.0 (omega (arith, ints))

  pub best_more : (t : ℕ) (sum b : ℤ) → IsSummed t (λ t. IsBest s prices t s.first.0) 1440414720000000 sum → IsBest s prices t s.first.0 b
      → IsSummed (t + 1) (λ t. IsBest s prices t s.first.0) 1440414720000000 (sum +ℤ b)
  best_more t sum b so_far h = summed_more t (λ t. IsBest s prices t s.first.0) 1440414720000000 sum b so_far h (best_between s prices t s.first.0 b o a h)
