-- What the operations on vectors of signed numbers give in each lane. A vector holds the numbers xs their bits.
use Rattle.std.proofs.Common.{◌≡◌, ℕ, zero, suc, ◌-◌, ◌<◌, ◌^◌, inl, inr, Bool, true, false, cond, ℤ, ◌+ℤ◌, ◌-ℤ◌, List, [], ◌∷◌, length, replicate}
use Rattle.std.proofs.Common.{map, All, w64, to_z, of_z, refl, arith}
use Rattle.std.proofs.lemmas.Int.{ints, to_z-of_z}
use Rattle.std.proofs.lemmas.List.Elements.{All-nil, All-cons, All-head, All-tail}
use Rattle.interval_solver.specs.Lanes.{number_in, IsLarger}
use lib.Lanes.{zip2, Each2, sel_l, top}
use lib.Signed.{lt_z}
use borrow.Rule.Simd.Lanes.{Asks2, act2}
use borrow.Table.Row.{s_int}
use mir.Syntax.{Op2, signed, add, sub, mask, lt}
use mir.Val.{SFits}

abbrev pub bits_of : List ℤ → List ℕ
bits_of zs = map (of_z w64) zs

abbrev pub numbers_of : List ℕ → List ℤ
numbers_of bs = map (to_z w64) bs

-- what an operation asks of the lanes of two vectors, and what it gives
abbrev pub AsksOf : Op2 → List ℕ → List ℕ → Type 0
AsksOf o xs ys = Each2 (Asks2 o (s_int w64) (s_int w64)) xs ys

abbrev pub given_by : Op2 → List ℕ → List ℕ → List ℕ
given_by o xs ys = zip2 (act2 o (s_int w64) (s_int w64) (s_int w64)) xs ys

abbrev pub larger_bits : List ℕ → List ℕ → List ℕ
larger_bits xs ys = sel_l (map (top 63) (given_by (mask (lt signed)) xs ys)) ys xs

-- ---- sums

pub sums_fit : (xs ys : List ℤ) → All (SFits w64) xs → All (SFits w64) ys → ((l : ℕ) → l < length xs → SFits w64 (number_in l xs +ℤ number_in l ys))
    → AsksOf (add signed) (bits_of xs) (bits_of ys)
sums_fit [] ys p q h = tt
sums_fit (a ∷ xs) [] p q h = tt
sums_fit (a ∷ xs) (b ∷ ys) p q h =
    let first : SFits w64 a = All-head (SFits w64) a xs p in
    let second : SFits w64 b = All-head (SFits w64) b ys q in (
      rw (to_z-of_z w64 a first, to_z-of_z w64 b second) (h zero (omega arith)),
      sums_fit xs ys (All-tail (SFits w64) a xs p) (All-tail (SFits w64) b ys q) (λ l k. h (suc l) (omega arith)),
    )

pub sum_in_lane : (xs ys : List ℤ) (l : ℕ) → All (SFits w64) xs → All (SFits w64) ys
    → ((k : ℕ) → k < length xs → SFits w64 (number_in k xs +ℤ number_in k ys)) → l < length xs → l < length ys
    → number_in l (numbers_of (given_by (add signed) (bits_of xs) (bits_of ys))) ≡ number_in l xs +ℤ number_in l ys
sum_in_lane [] ys l p q h i j = absurd (omega arith)
sum_in_lane (a ∷ xs) [] l p q h i j = absurd (omega arith)
sum_in_lane (a ∷ xs) (b ∷ ys) zero p q h i j =
    let first : SFits w64 a = All-head (SFits w64) a xs p in
    let second : SFits w64 b = All-head (SFits w64) b ys q in
    rw (to_z-of_z w64 a first, to_z-of_z w64 b second) (to_z-of_z w64 (a +ℤ b) (h zero (omega arith)))
sum_in_lane (a ∷ xs) (b ∷ ys) (suc l) p q h i j = sum_in_lane xs ys l (All-tail (SFits w64) a xs p) (All-tail (SFits w64) b ys q)
    (λ k n. h (suc k) (omega arith)) (omega arith) (omega arith)

pub sums_are_numbers : (xs ys : List ℤ) → All (SFits w64) xs → All (SFits w64) ys
    → ((l : ℕ) → l < length xs → SFits w64 (number_in l xs +ℤ number_in l ys))
    → All (SFits w64) (numbers_of (given_by (add signed) (bits_of xs) (bits_of ys)))
sums_are_numbers [] ys p q h = All-nil (SFits w64)
sums_are_numbers (a ∷ xs) [] p q h = All-nil (SFits w64)
sums_are_numbers (a ∷ xs) (b ∷ ys) p q h =
    let first : SFits w64 a = All-head (SFits w64) a xs p in
    let second : SFits w64 b = All-head (SFits w64) b ys q in
    let sum : SFits w64 (a +ℤ b) = h zero (omega arith) in
    All-cons (SFits w64) _ (numbers_of (given_by (add signed) (bits_of xs) (bits_of ys)))
    (rw (to_z-of_z w64 a first, to_z-of_z w64 b second, to_z-of_z w64 (a +ℤ b) sum) sum)
    (sums_are_numbers xs ys (All-tail (SFits w64) a xs p) (All-tail (SFits w64) b ys q) (λ l k. h (suc l) (omega arith)))

-- ---- differences

pub differences_fit : (n : ℕ) (a : ℤ) (ys : List ℤ) → SFits w64 a → All (SFits w64) ys → ((l : ℕ) → l < n → SFits w64 (a -ℤ number_in l ys))
    → AsksOf (sub signed) (replicate n (of_z w64 a)) (bits_of ys)
differences_fit zero a ys p q h = tt
differences_fit (suc n) a [] p q h = tt
differences_fit (suc n) a (b ∷ ys) p q h =
    let second : SFits w64 b = All-head (SFits w64) b ys q in (
      rw (to_z-of_z w64 a p, to_z-of_z w64 b second) (h zero (omega arith)),
      differences_fit n a ys p (All-tail (SFits w64) b ys q) (λ l k. h (suc l) (omega arith)),
    )

pub difference_in_lane : (n : ℕ) (a : ℤ) (ys : List ℤ) (l : ℕ) → SFits w64 a → All (SFits w64) ys
    → ((k : ℕ) → k < n → SFits w64 (a -ℤ number_in k ys)) → l < n → l < length ys
    → number_in l (numbers_of (given_by (sub signed) (replicate n (of_z w64 a)) (bits_of ys))) ≡ a -ℤ number_in l ys
difference_in_lane zero a ys l p q h i j = absurd (omega arith)
difference_in_lane (suc n) a [] l p q h i j = absurd (omega arith)
difference_in_lane (suc n) a (b ∷ ys) zero p q h i j =
    let second : SFits w64 b = All-head (SFits w64) b ys q in
    rw (to_z-of_z w64 a p, to_z-of_z w64 b second) (to_z-of_z w64 (a -ℤ b) (h zero (omega arith)))
difference_in_lane (suc n) a (b ∷ ys) (suc l) p q h i j = difference_in_lane n a ys l p (All-tail (SFits w64) b ys q) (λ k m. h (suc k) (omega arith))
    (omega arith) (omega arith)

pub differences_are_numbers : (n : ℕ) (a : ℤ) (ys : List ℤ) → SFits w64 a → All (SFits w64) ys → ((l : ℕ) → l < n → SFits w64 (a -ℤ number_in l ys))
    → All (SFits w64) (numbers_of (given_by (sub signed) (replicate n (of_z w64 a)) (bits_of ys)))
differences_are_numbers zero a ys p q h = All-nil (SFits w64)
differences_are_numbers (suc n) a [] p q h = All-nil (SFits w64)
differences_are_numbers (suc n) a (b ∷ ys) p q h =
    let second : SFits w64 b = All-head (SFits w64) b ys q in
    let difference : SFits w64 (a -ℤ b) = h zero (omega arith) in
    All-cons (SFits w64) _ (numbers_of (given_by (sub signed) (replicate n (of_z w64 a)) (bits_of ys)))
    (rw (to_z-of_z w64 a p, to_z-of_z w64 b second, to_z-of_z w64 (a -ℤ b) difference) difference)
    (differences_are_numbers n a ys p (All-tail (SFits w64) b ys q) (λ l k. h (suc l) (omega arith)))

-- ---- larger numbers

chosen : (t : Bool) (a b : ℤ) → SFits w64 a → SFits w64 b → lt_z a b ≡ t
    → IsLarger a b (to_z w64 (cond (top 63 (cond t (2 ^ 64 - 1) 0)) (of_z w64 b) (of_z w64 a)))
chosen true a b p q e = let same : to_z w64 (of_z w64 b) ≡ b = to_z-of_z w64 b q in
    record { first = grind (arith, ints); second = omega (arith, ints); one = inr same }
chosen false a b p q e = let same : to_z w64 (of_z w64 a) ≡ a = to_z-of_z w64 a p in
    record { first = omega (arith, ints); second = grind (arith, ints); one = inl same }

pub larger_in_lane : (xs ys : List ℤ) (l : ℕ) → All (SFits w64) xs → All (SFits w64) ys → l < length xs → l < length ys
    → IsLarger (number_in l xs) (number_in l ys) (number_in l (numbers_of (larger_bits (bits_of xs) (bits_of ys))))
larger_in_lane [] ys l p q i j = absurd (omega arith)
larger_in_lane (a ∷ xs) [] l p q i j = absurd (omega arith)
larger_in_lane (a ∷ xs) (b ∷ ys) zero p q i j =
    let first : SFits w64 a = All-head (SFits w64) a xs p in
    let second : SFits w64 b = All-head (SFits w64) b ys q in
    rw (to_z-of_z w64 a first, to_z-of_z w64 b second) (chosen (lt_z a b) a b first second refl)
larger_in_lane (a ∷ xs) (b ∷ ys) (suc l) p q i j = larger_in_lane xs ys l (All-tail (SFits w64) a xs p) (All-tail (SFits w64) b ys q)
    (omega arith) (omega arith)

chosen_fits : (t : Bool) (a b : ℤ) → SFits w64 a → SFits w64 b → SFits w64 (to_z w64 (cond (top 63 (cond t (2 ^ 64 - 1) 0)) (of_z w64 b) (of_z w64 a)))
chosen_fits true a b p q = rw (to_z-of_z w64 b q) q
chosen_fits false a b p q = rw (to_z-of_z w64 a p) p

pub larger_are_numbers : (xs ys : List ℤ) → All (SFits w64) xs → All (SFits w64) ys → All (SFits w64) (numbers_of (larger_bits (bits_of xs) (bits_of ys)))
larger_are_numbers [] ys p q = All-nil (SFits w64)
larger_are_numbers (a ∷ xs) [] p q = All-nil (SFits w64)
larger_are_numbers (a ∷ xs) (b ∷ ys) p q =
    All-cons (SFits w64) _ (numbers_of (larger_bits (bits_of xs) (bits_of ys)))
    (chosen_fits (lt_z (to_z w64 (of_z w64 a)) (to_z w64 (of_z w64 b))) a b (All-head (SFits w64) a xs p) (All-head (SFits w64) b ys q))
    (larger_are_numbers xs ys (All-tail (SFits w64) a xs p) (All-tail (SFits w64) b ys q))
