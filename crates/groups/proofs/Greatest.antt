-- The first of the greatest prices is told from the others.
use Rattle.std.proofs.Common.{◌≡◌, ◌≢◌, ℕ, ◌+◌, ◌-◌, ◌<◌, ◌⊎◌, inl, inr, Bool, true, false, ◌&&◌, ◌==◌, nat_lt, nat_le, int_lt, int_le, ℤ, pos, negsuc}
use Rattle.std.proofs.Common.{List, length, take, drop, slice_index_or, refl, sym, ◌∙◌, ap, arith}
use Rattle.std.specs.List.{IsFirstBest, AllPass}
use Rattle.std.proofs.lemmas.Bool.Decides.{nat_tests}
use Rattle.std.proofs.lemmas.List.{get_or-take, get_or-drop, get_or_default, length-take, length-drop}
use Rattle.std.proofs.lemmas.List.Folds.{list_all_at}
use Rattle.std.proofs.lemmas.List.Sums.{list_all-from_AllPass}
use Rattle.plan_base.specs.NetPrices.{is_first_greatest}

no_less : (m n : ℕ) → nat_lt m n ≡ false → nat_le n m ≡ true
no_less m n h = grind (arith, nat_tests)

less : (m n : ℕ) → nat_lt m n ≡ true → nat_le n m ≡ false
less m n h = grind (arith, nat_tests)

true_or_false : true ≡ false → ⊥
true_or_false h = cc

at_most : (a b : ℤ) → int_lt a b ≡ false → int_le b a ≡ true
at_most (pos m) (pos n) h = no_less m n h
at_most (pos m) (negsuc n) h = refl
at_most (negsuc m) (pos n) h = absurd (true_or_false h)
at_most (negsuc m) (negsuc n) h = no_less n m h

above : (a b : ℤ) → int_lt a b ≡ true → int_le b a ≡ false
above (pos m) (pos n) h = less m n h
above (pos m) (negsuc n) h = absurd (true_or_false (sym h))
above (negsuc m) (pos n) h = refl
above (negsuc m) (negsuc n) h = less n m h

below_same_above : (a b : ℕ) → ((a < b) ⊎ (b < a)) ⊎ (a ≡ b)
below_same_above a b = grind arith

same_place : (a b : ℕ) → a ≡ b → (a == b) ≡ true
same_place a b e = grind (arith, nat_tests)

other_place : (a b : ℕ) → a ≢ b → (a == b) ≡ false
other_place a b n = grind (arith, nat_tests, n)

both : (a b : Bool) → a ≡ true → b ≡ true → (a && b) ≡ true
both true true h k = refl
both true false h k = k
both false b h k = h

not_first : (a b : Bool) → a ≡ false → (a && b) ≡ false
not_first true b h = absurd (true_or_false h)
not_first false b h = refl

not_second : (a b : Bool) → b ≡ false → (a && b) ≡ false
not_second true b h = h
not_second false b h = refl

pub first_is : (prices : List ℤ) (r i : ℕ) → IsFirstBest (λ a b. int_lt b a) prices (length prices) r → i < length prices
    → is_first_greatest prices i ≡ (i == r)
first_is prices r i (within, none, before) l = elim (below_same_above i r) [
  | inl (inl low) ↦
      let p : ℤ = slice_index_or prices i (pos 0) in
      let place : slice_index_or (drop i prices) (r - i) (pos 0) ≡ slice_index_or prices r (pos 0) = get_or-drop i prices (r - i) (pos 0)
      ∙ ap (λ (k : ℕ). slice_index_or prices k (pos 0)) (omega arith) in
      let beaten : int_le (slice_index_or (drop i prices) (r - i) (pos 0)) p ≡ false = ap (λ (c : ℤ). int_le c p) place
      ∙ above p (slice_index_or prices r (pos 0)) (before i (pos 0) low) in
      let size : length (drop i prices) ≡ length prices - i = length-drop i prices in
      not_second _ _ (list_all_at (λ c. int_le c p) (drop i prices) (r - i) (pos 0) (omega arith) beaten) ∙ sym (other_place i r (λ same. omega (arith, same)))
  | inl (inr high) ↦
      let p : ℤ = slice_index_or prices i (pos 0) in
      let place : slice_index_or (take i prices) r (pos 0) ≡ slice_index_or prices r (pos 0) = get_or-take i prices r (pos 0) high in
      let beaten : int_lt (slice_index_or (take i prices) r (pos 0)) p ≡ false = ap (λ (c : ℤ). int_lt c p) place ∙ none i (pos 0) l in
      let size : length (take i prices) ≡ i = length-take i prices ∙ omega arith in
      not_first _ _ (list_all_at (λ c. int_lt c p) (take i prices) r (pos 0) (omega arith) beaten) ∙ sym (other_place i r (λ same. omega (arith, same)))
  | inr same ↦ ap (is_first_greatest prices) same ∙ here ∙ sym (same_place i r same)
]
  where
    p : ℤ
    p = slice_index_or prices r (pos 0)

    early : AllPass (λ c. int_lt c p) (take r prices)
    early k d m =
        let size : length (take r prices) ≡ r = length-take r prices ∙ omega (arith, within) in
        ap (λ (c : ℤ). int_lt c p) (get_or-take r prices k d (omega arith) ∙ get_or_default prices k d (pos 0) (omega (arith, within)))
        ∙ before k (pos 0) (omega arith)

    late : AllPass (λ c. int_le c p) (drop r prices)
    late k d m =
        let size : length (drop r prices) ≡ length prices - r = length-drop r prices in
        ap (λ (c : ℤ). int_le c p) (get_or-drop r prices k d ∙ get_or_default prices (r + k) d (pos 0) (omega arith))
        ∙ at_most p (slice_index_or prices (r + k) (pos 0)) (none (r + k) (pos 0) (omega arith))

    here : is_first_greatest prices r ≡ true
    here = both _ _ (list_all-from_AllPass (λ c. int_lt c p) (take r prices) early) (list_all-from_AllPass (λ c. int_le c p) (drop r prices) late)
