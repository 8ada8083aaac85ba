-- What the loops over numbers keep.
use Rattle.std.proofs.Common.{◌≡◌, ℕ, ◌+◌, ◌^◌, ◌<◌, ℤ, pos, negsuc, w64, ◌+ℤ◌, ◌≤ℤ◌, List, length, drop, slice_index_or, All, arith}
use Rattle.std.proofs.lemmas.Int.{ints}
use Rattle.std.proofs.lemmas.List.{at_drop_more}
use Rattle.std.proofs.lemmas.List.Elements.{All-drop}
use Rattle.plan_base.specs.Sums.{total}
use mir.Val.{SFits}
use Rattle.plan_base.proofs.Totals.{total_not_negative}

-- the sum of the first i numbers, none of which is negative
pub record IsSummed (numbers : List ℤ) (i : ℕ) (sum : ℤ) : Type 0 where
  pub rest : sum +ℤ total (λ c. c) (drop i numbers) ≡ total (λ c. c) numbers
  pub least : pos 0 ≤ℤ sum

-- a sum of numbers that aren't negative is at most that of all
pub summed_most : (numbers : List ℤ) (i : ℕ) (sum : ℤ) → All (λ c. pos 0 ≤ℤ c) numbers → IsSummed numbers i sum → sum ≤ℤ total (λ c. c) numbers
summed_most numbers i sum a h =
    let rest : pos 0 ≤ℤ total (λ c. c) (drop i numbers) = total_not_negative (λ c. c) (drop i numbers) (All-drop (λ c. pos 0 ≤ℤ c) i numbers a) in
    let whole : sum +ℤ total (λ c. c) (drop i numbers) ≡ total (λ c. c) numbers = h.rest in
    omega (arith, ints)

pub summed_more : (numbers : List ℤ) (i : ℕ) (sum : ℤ) → i < length numbers → All (λ c. pos 0 ≤ℤ c) numbers → IsSummed numbers i sum
    → IsSummed numbers (i + 1) (sum +ℤ slice_index_or numbers i (pos 0))
summed_more numbers i sum l a h =
    let step : total (λ c. c) (drop i numbers) ≡ slice_index_or numbers i (pos 0) +ℤ total (λ c. c) (drop (i + 1) numbers) =
    at_drop_more (total (λ c. c)) numbers i (pos 0) l in
    let whole : sum +ℤ total (λ c. c) (drop i numbers) ≡ total (λ c. c) numbers = h.rest in
    let here : pos 0 ≤ℤ slice_index_or numbers i (pos 0) = a i (pos 0) l in
    let least : pos 0 ≤ℤ sum = h.least in
    record { rest = omega (arith, ints); least = omega (arith, ints) }

-- a sum that is at most 10^17 fits 64 bits
pub sum_fits : (z : ℤ) → pos 0 ≤ℤ z → z ≤ℤ pos (10 ^ 17) → SFits w64 z
sum_fits (pos n) low high = record { sfits = omega (arith, ints) }
sum_fits (negsuc n) low high = absurd (omega (arith, ints))

three_most : (a b c : ℤ) → pos 0 ≤ℤ a → pos 0 ≤ℤ b → pos 0 ≤ℤ c → (a +ℤ b +ℤ c) ≤ℤ pos (10 ^ 17)
    → (a ≤ℤ pos (10 ^ 17)) × (b ≤ℤ pos (10 ^ 17)) × (c ≤ℤ pos (10 ^ 17))
three_most a b c la lb lc most = (omega (arith, ints), omega (arith, ints), omega (arith, ints))

-- each of three sums is at most the whole
pub parts_most : (xs ys zs : List ℤ) → All (λ c. pos 0 ≤ℤ c) xs → All (λ c. pos 0 ≤ℤ c) ys → All (λ c. pos 0 ≤ℤ c) zs
    → (total (λ c. c) xs +ℤ total (λ c. c) ys +ℤ total (λ c. c) zs) ≤ℤ pos (10 ^ 17)
    → (total (λ c. c) xs ≤ℤ pos (10 ^ 17)) × (total (λ c. c) ys ≤ℤ pos (10 ^ 17)) × (total (λ c. c) zs ≤ℤ pos (10 ^ 17))
parts_most xs ys zs a b c most = three_most _ _ _ (total_not_negative (λ c. c) xs a) (total_not_negative (λ c. c) ys b) (total_not_negative (λ c. c) zs c) most

pub summed_fits : (numbers : List ℤ) (i : ℕ) (sum : ℤ) → i < length numbers → All (λ c. pos 0 ≤ℤ c) numbers → total (λ c. c) numbers ≤ℤ pos (10 ^ 17)
    → IsSummed numbers i sum → SFits w64 (sum +ℤ slice_index_or numbers i (pos 0))
summed_fits numbers i sum l a top h =
    let more : IsSummed numbers (i + 1) (sum +ℤ slice_index_or numbers i (pos 0)) = summed_more numbers i sum l a h in
    let most : (sum +ℤ slice_index_or numbers i (pos 0)) ≤ℤ total (λ c. c) numbers = summed_most numbers (i + 1) _ a more in
    let least : pos 0 ≤ℤ (sum +ℤ slice_index_or numbers i (pos 0)) = more.least in
    sum_fits _ least (omega (arith, ints))
