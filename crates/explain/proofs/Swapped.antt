-- A sum of parts of which one is put in the place of another.
use Rattle.std.proofs.Common.{◌≡◌, ◌≢◌, ℕ, zero, suc, ◌<◌, ◌⊎◌, inl, inr, ℤ, pos, ◌+ℤ◌, ◌-ℤ◌, List, [], ◌∷◌, length, slice_index_or, slice_set, sym}
use Rattle.std.proofs.Common.{◌∙◌, ap, subst, arith, get_or-set_other, get_or-set_same, length-set}
use Rattle.std.proofs.lemmas.Int.{ints}
use Rattle.plan_base.specs.Sums.{total, IsSumOf}

pub sum_with : (xs : List ℤ) (k : ℕ) (y : ℤ) → k < length xs → total (λ x. x) (slice_set xs k y) ≡ total (λ x. x) xs -ℤ slice_index_or xs k (pos 0) +ℤ y
sum_with [] k y l = absurd (omega arith)
sum_with (x ∷ xs) zero y l = omega (arith, ints)
sum_with (x ∷ xs) (suc k) y l =
    let rest : total (λ z. z) (slice_set xs k y) ≡ total (λ z. z) xs -ℤ slice_index_or xs k (pos 0) +ℤ y = sum_with xs k y (omega arith) in
    omega (arith, ints)

same_or_not : (i k : ℕ) → (i ≡ k) ⊎ (i ≢ k)
same_or_not i k = grind arith

-- y in the place of part k, which is x
pub swapped : (n : ℕ) (P : ℕ → ℤ → Type 0) (b : ℤ) (k : ℕ) (x y : ℤ) → IsSumOf n P b → k < n → ((z : ℤ) → P k z → z ≡ x)
    → IsSumOf n (λ i z. ((i ≡ k) × (z ≡ y)) ⊎ P i z) (b -ℤ x +ℤ y)
swapped n P b k x y sum l one =
    let count : length sum.parts ≡ n = sum.count in
    let within : k < length sum.parts = omega arith in
    let old : slice_index_or sum.parts k (pos 0) ≡ x = one _ (sum.each k l) in
    let whole : total (λ z. z) (slice_set sum.parts k y) ≡ total (λ z. z) sum.parts -ℤ slice_index_or sum.parts k (pos 0) +ℤ y =
    sum_with sum.parts k y within in
    let before : total (λ z. z) sum.parts ≡ b = sum.sum in
    record {
      parts = slice_set sum.parts k y;
      count = length-set sum.parts k y ∙ count;
      each = λ i m. elim (same_or_not i k) [
        | inl same ↦ inl (same, ap (λ (j : ℕ). slice_index_or (slice_set sum.parts k y) j (pos 0)) same ∙ get_or-set_same sum.parts k y (pos 0) within)
        | inr other ↦ inr (subst (P i) (sym (get_or-set_other sum.parts k i y (pos 0) other)) (sum.each i m))
      ];
      sum = omega (arith, ints);
    }
