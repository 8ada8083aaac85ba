-- Rounds at small prices keep to all conditions.
use Rattle.std.proofs.Common.{◌≡◌, ℕ, ◌*◌, ◌^◌, ◌≤◌, Bool, true, false, if◌then◌else◌, cond, nat_lt, ℤ, pos, unsigned_abs, neg_ℤ, ◌+ℤ◌, ◌-ℤ◌, ◌≤ℤ◌}
use Rattle.std.proofs.Common.{List, length, slice_index_or, All, sym, subst, arith}
use Rattle.std.proofs.lemmas.Int.{ints}
use Rattle.plan_base.specs.declared.parts.Parts.{Parts}
use Rattle.plan_base.specs.Sums.{total}
use Rattle.plan_base.specs.Requests.{listed}
use Rattle.plan_base.specs.Verdict.{IsPriceInRange}
use Rattle.plan_base.specs.Round.{is_taken}
use Rattle.plan_base.proofs.Totals.{total_at_most}
use Rattle.prices.specs.Rounds.{number_at, stepped_price, prices_after}
use Rattle.prices.proofs.Rounding.{after_at, after_count}

-- far from the ends of the range of prices
abbrev pub IsSmall : ℤ → Type 0
IsSmall c = (neg_ℤ (pos (10 ^ 11)) ≤ℤ c) × (c ≤ℤ pos (10 ^ 11))

-- a part of a bound
abbrev pub IsPart : ℤ → Type 0
IsPart c = (pos 0 ≤ℤ c) × (c ≤ℤ pos (10 ^ 12))

small_in_range : (c : ℤ) → IsSmall c → IsPriceInRange c
small_in_range c h =
    let least : neg_ℤ (pos (10 ^ 11)) ≤ℤ c = h.0 in
    let most : c ≤ℤ pos (10 ^ 11) = h.1 in
    (omega (arith, ints), omega (arith, ints))

pub prices_in_range : (prices : List ℤ) → All IsSmall prices → All IsPriceInRange prices
prices_in_range prices a i d l = small_in_range (slice_index_or prices i d) (a i d l)

moved_in_range : (step : ℤ) (c : ℤ) (uses : ℕ) (taken : Bool) → unsigned_abs step ≤ 100000 → IsSmall c → IsPriceInRange (stepped_price step c uses taken)
moved_in_range step c uses taken few h = by_tests (nat_lt (cond taken 1 0) uses) (nat_lt uses (cond taken 1 0))
  where
    least : neg_ℤ (pos (10 ^ 11)) ≤ℤ c
    least = h.0

    most : c ≤ℤ pos (10 ^ 11)
    most = h.1

    by_tests : (up down : Bool) → IsPriceInRange (if up then c +ℤ step else (if down then c -ℤ step else c))
    by_tests true down = (omega (arith, ints, least, most, few), omega (arith, ints, least, most, few))
    by_tests false true = (omega (arith, ints, least, most, few), omega (arith, ints, least, most, few))
    by_tests false false = small_in_range c h

-- small prices stay in their range where the step is small
pub small_stay : (s : Parts) (step : ℤ) (prices : List ℤ) (c : ℕ → ℤ) (uses : List ℕ) → length prices ≡ length (listed s) → unsigned_abs step ≤ 100000
    → All IsSmall prices → All IsPriceInRange (prices_after s step prices c uses)
small_stay s step prices c uses count few a i d l =
    let size : length (prices_after s step prices c uses) ≡ length (listed s) = after_count s step prices c uses in
    subst IsPriceInRange (sym (after_at s step prices c uses i d (omega arith)))
    (moved_in_range step (slice_index_or prices i (pos 0)) (slice_index_or uses i 0) (is_taken s c (number_at s i)) few (a i (pos 0) (omega arith)))

pub not_negative : (numbers : List ℤ) → All IsPart numbers → All (λ c. pos 0 ≤ℤ c) numbers
not_negative numbers a i d l = (a i d l).0

part_total : (numbers : List ℤ) → length numbers ≤ 1000 → All IsPart numbers → total (λ c. c) numbers ≤ℤ pos (10 ^ 15)
part_total numbers few a =
    let most : total (λ c. c) numbers ≤ℤ pos (length numbers * 10 ^ 12) = total_at_most (λ c. c) (10 ^ 12) numbers (λ i d l. (a i d l).1) in
    omega (arith, ints)

-- three sums of few parts are at most what a bound may be
pub parts_fit : (bests rebates quotas : List ℤ) → length bests ≤ 1000 → length rebates ≤ 1000 → length quotas ≤ 1000 → All IsPart bests
    → All IsPart rebates → All IsPart quotas
    → (total (λ c. c) bests +ℤ total (λ c. c) rebates +ℤ total (λ c. c) quotas) ≤ℤ pos (10 ^ 17)
parts_fit bests rebates quotas few_bests few_rebates few_quotas a b q =
    let one : total (λ c. c) bests ≤ℤ pos (10 ^ 15) = part_total bests few_bests a in
    let two : total (λ c. c) rebates ≤ℤ pos (10 ^ 15) = part_total rebates few_rebates b in
    let three : total (λ c. c) quotas ≤ℤ pos (10 ^ 15) = part_total quotas few_quotas q in
    omega (arith, ints)
