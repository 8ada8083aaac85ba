-- Parts of a bound that are written one after another.
use Rattle.std.proofs.Common.{◌≡◌, ℕ, ◌+◌, ◌<◌, ◌⊎◌, inl, inr, ℤ, pos, ◌≤ℤ◌, List, ◌++◌, length, take, drop, slice_index_or, slice_set, All, sym, ◌∙◌}
use Rattle.std.proofs.Common.{ap, subst, arith}
use Rattle.std.proofs.lemmas.List.{get_or-set_same, get_or-set_other, get_or_default}
use Rattle.std.proofs.Math.Seq.{take-append_seam}
use Rattle.plan_base.specs.declared.parts.Parts.{Parts}
use Rattle.plan_base.specs.Snapshot.{IsOrderly}
use Rattle.plan_base.specs.Sums.{AreParts}
use Rattle.plan_base.specs.Bound.{IsBest}
use Rattle.plan_base.specs.Verdict.{IsPriceInRange}
use Rattle.plan_base.proofs.Limits.{best_between}

below_or_at : (k i : ℕ) → k < i + 1 → (k < i) ⊎ (k ≡ i)
below_or_at k i h = grind arith

-- one part more
pub part_more : (P : ℕ → ℤ → Type 0) (parts : List ℤ) (n : ℕ) (b w : ℤ) → n < length parts → w ≡ b → P n b
    → ((i : ℕ) → i < n → P i (slice_index_or parts i (pos 0)))
    → (i : ℕ) → i < n + 1 → P i (slice_index_or (slice_set parts n w) i (pos 0))
part_more P parts n b w within same is all i l = elim (below_or_at i n l) [
  | inl below ↦ subst (P i) (sym (get_or-set_other parts n i w (pos 0) (λ e. omega arith))) (all i below)
  | inr at ↦
      let read : slice_index_or (slice_set parts n w) i (pos 0) ≡ b
      = ap (λ (k : ℕ). slice_index_or (slice_set parts n w) k (pos 0)) at ∙ get_or-set_same parts n w (pos 0) within ∙ same
      in
      subst (P i) (sym read) (subst (λ (k : ℕ). P k b) (sym at) is)
]

-- a slice that is as long as the vector that lent it is the vector's items
pub written_back : {X : Type 0} (n : ℕ) (new old : List X) → n ≡ length old → length new ≡ length old → take n (new ++ drop (length new) old) ≡ new
written_back n new old room same = ap (λ (m : ℕ). take m (new ++ drop (length new) old)) (room ∙ sym same) ∙ take-append_seam new (drop (length new) old)

-- no best is negative
pub bests_least : (s : Parts) (prices bests : List ℤ) → IsOrderly s → All IsPriceInRange prices
    → AreParts (length s.telescopes) (λ t. IsBest s prices t s.first.0) bests → All (λ c. pos 0 ≤ℤ c) bests
bests_least s prices bests o range parts i d l =
    let known : i < length s.telescopes = omega (arith, parts.count) in
    subst (λ (b : ℤ). pos 0 ≤ℤ b) (get_or_default bests i (pos 0) d l)
    (best_between s prices i s.first.0 (slice_index_or bests i (pos 0)) o range (parts.each i known)).0
