-- The prices of a lane's rounds: how many there are, and how far they are from 0.
use Rattle.std.proofs.Common.{◌≡◌, ℕ, zero, suc, ◌+◌, ◌*◌, ◌/◌, ◌^◌, ◌<◌, ◌≤◌, ◌⊎◌, inl, inr, min, max, ◌-◌, Bool, true, false, cond, if◌then◌else◌}
use Rattle.std.proofs.Common.{nat_lt, ℤ, pos, neg_ℤ, ◌+ℤ◌, ◌-ℤ◌, ◌≤ℤ◌, List, [], ◌∷◌, length, map, slice_index_or, All, sym, ◌∙◌, ap, subst, arith}
use Rattle.std.specs.List.{fold, enumerate_from}
use Rattle.std.proofs.Math.Nat.{div-le_self}
use Rattle.std.proofs.lemmas.Int.{ints}
use Rattle.std.proofs.lemmas.List.{length-map, get_or_past}
use Rattle.std.proofs.lemmas.List.Elements.{All-head, All-tail, All-map}
use Rattle.std.proofs.lemmas.List.FromFn.{length-enumerate_from}
use Rattle.plan_base.specs.declared.parts.Parts.{Parts}
use Rattle.plan_base.specs.Requests.{listed, place_of}
use Rattle.plan_base.specs.Snapshot.{IsOrderly}
use Rattle.plan_base.specs.Bound.{price, net_price}
use Rattle.plan_base.specs.Round.{is_taken, uses_of, demand_of, greatest_value, step_of, quota_step, moved_price, moved_quota_price, IsRoundPrices}
use Rattle.plan_base.specs.Verdict.{IsPriceInRange}
use Rattle.plan_base.proofs.Limits.{quota_price_at_most}

-- no further from 0 than n
abbrev pub IsUpTo : ℕ → ℤ → Type 0
IsUpTo n c = (neg_ℤ (pos n) ≤ℤ c) × (c ≤ℤ pos n)

below_or_from : (j k : ℕ) → (j < k) ⊎ (k ≤ j)
below_or_from j k = grind arith

up_to_at : (n : ℕ) (prices : List ℤ) (i : ℕ) → All (IsUpTo n) prices → IsUpTo n (slice_index_or prices i (pos 0))
up_to_at n prices i a = elim (below_or_from i (length prices)) [
  | inl l ↦ a i (pos 0) l
  | inr l ↦ let past : slice_index_or prices i (pos 0) ≡ pos 0 = get_or_past prices i (pos 0) l in (omega (arith, ints), omega (arith, ints))
]

moved_up_to : (n m step : ℕ) (c : ℤ) (uses : ℕ) (taken : Bool) → step ≤ m → IsUpTo n c → IsUpTo (n + m) (moved_price step c uses taken)
moved_up_to n m step c uses taken few h = by_tests (nat_lt (cond taken 1 0) uses) (nat_lt uses (cond taken 1 0))
  where
    least : neg_ℤ (pos n) ≤ℤ c
    least = h.0

    most : c ≤ℤ pos n
    most = h.1

    by_tests : (up down : Bool) → IsUpTo (n + m) (if up then c +ℤ pos step else (if down then c -ℤ pos step else c))
    by_tests true down = (omega (arith, ints, least, most, few), omega (arith, ints, least, most, few))
    by_tests false true = (omega (arith, ints, least, most, few), omega (arith, ints, least, most, few))
    by_tests false false = (omega (arith, ints, least, most, few), omega (arith, ints, least, most, few))

greatest_of : (m a : ℕ) (values : List ℕ) → a ≤ m → All (λ v. v ≤ m) values → fold max a values ≤ m
greatest_of m a [] few all = few
greatest_of m a (v ∷ vs) few all =
    let first : v ≤ m = All-head (λ w. w ≤ m) v vs all in
    greatest_of m (max a v) vs (omega arith) (All-tail (λ w. w ≤ m) v vs all)

-- no request of a snapshot is worth more
greatest_most : (s : Parts) → IsOrderly s → greatest_value s ≤ 288000000
greatest_most s o = greatest_of 288000000 0 (map (λ x. x.request.value) (listed s)) (omega arith)
    (All-map (λ v. v ≤ 288000000) (λ x. x.request.value) (listed s) (λ i d l. (o.ranges.values i d l).1))

-- no step is longer than the greatest value
pub step_most : (s : Parts) (lane round : ℕ) → IsOrderly s → step_of lane round (greatest_value s) ≤ 288000000
step_most s lane round o =
    let most : greatest_value s ≤ 288000000 = greatest_most s o in
    let part : greatest_value s / (2 ^ lane * (round + 1)) ≤ greatest_value s = div-le_self (greatest_value s) (2 ^ lane * (round + 1)) in
    omega arith

-- in each round a price moves by no more than the greatest value of a request
pub round_up_to : (s : Parts) (lane round : ℕ) (prices : List ℤ) (quota_prices : List ℕ) → IsOrderly s → IsRoundPrices s lane round prices quota_prices
    → All (IsUpTo (round * 288000000)) prices
round_up_to s lane zero prices quota_prices o (first, quotas) =
    subst (All (IsUpTo 0)) (sym first) (All-map (IsUpTo 0) (λ x. pos 0) (listed s) (λ i d l. (omega (arith, ints), omega (arith, ints))))
round_up_to s lane (suc round) prices quota_prices o (before, before_quota, is_round, next) =
    let c : ℕ → ℤ = net_price s before before_quota in
    let step : ℕ = step_of lane round (greatest_value s) in
    let earlier : All (IsUpTo (round * 288000000)) before = round_up_to s lane round before before_quota o is_round in
    let longer : round * 288000000 + 288000000 ≡ suc round * 288000000 = omega arith in
    subst (λ (n : ℕ). All (IsUpTo n) prices) longer
    (subst (All (IsUpTo (round * 288000000 + 288000000))) (sym next.moved)
    (All-map (IsUpTo (round * 288000000 + 288000000))
    (λ x. moved_price step (price s before x.request.request.0) (uses_of next.starts x.request.request.0) (is_taken s c x.request.request.0))
    (listed s) (λ i d l.
    let r : ℕ = (slice_index_or (listed s) i d).request.request.0 in
    moved_up_to (round * 288000000) 288000000 step (price s before r) (uses_of next.starts r) (is_taken s c r) (step_most s lane round o)
    (up_to_at (round * 288000000) before (place_of s r) earlier))))

-- so prices of at most 256 rounds stay in their range
pub round_in_range : (s : Parts) (lane round : ℕ) (prices : List ℤ) (quota_prices : List ℕ) → IsOrderly s → round ≤ 256
    → IsRoundPrices s lane round prices quota_prices → All IsPriceInRange prices
round_in_range s lane round prices quota_prices o few is_round i d l =
    let both : IsUpTo (round * 288000000) (slice_index_or prices i d) = round_up_to s lane round prices quota_prices o is_round i d l in
    let least : neg_ℤ (pos (round * 288000000)) ≤ℤ slice_index_or prices i d = both.0 in
    let most : slice_index_or prices i d ≤ℤ pos (round * 288000000) = both.1 in
    (omega (arith, ints), omega (arith, ints))

moved_quota_most : (step u demand most : ℕ) → u ≤ 200000 → moved_quota_price step u demand most ≤ 200000
moved_quota_most step u demand most few = by_tests (nat_lt most demand) (nat_lt demand most)
  where
    by_tests : (up down : Bool) → (if up then min 200000 (u + quota_step step) else (if down then u - quota_step step else u)) ≤ 200000
    by_tests true down = omega (arith, few)
    by_tests false true = omega (arith, few)
    by_tests false false = few

-- quota prices stay in their range
pub round_quota_in_range : (s : Parts) (lane round : ℕ) (prices : List ℤ) (quota_prices : List ℕ) → IsRoundPrices s lane round prices quota_prices
    → All (λ u. u ≤ 200000) quota_prices
round_quota_in_range s lane zero prices quota_prices (first, quotas) =
    subst (All (λ u. u ≤ 200000)) (sym quotas) (All-map (λ u. u ≤ 200000) (λ q. 0) s.quotas (λ i d l. omega arith))
round_quota_in_range s lane (suc round) prices quota_prices (before, before_quota, is_round, next) =
    let c : ℕ → ℤ = net_price s before before_quota in
    let step : ℕ = step_of lane round (greatest_value s) in
    let earlier : All (λ u. u ≤ 200000) before_quota = round_quota_in_range s lane round before before_quota is_round in
    subst (All (λ u. u ≤ 200000)) (sym next.moved_quota)
    (All-map (λ u. u ≤ 200000) (λ q. moved_quota_price step (slice_index_or before_quota q.0 0) (demand_of s c q.0) q.1) (enumerate_from 0 s.quotas) (λ i d l.
    let q : ℕ × ℕ = slice_index_or (enumerate_from 0 s.quotas) i d in
    moved_quota_most step (slice_index_or before_quota q.0 0) (demand_of s c q.0) q.1 (quota_price_at_most before_quota q.0 earlier)))

-- there is a price for each request
pub round_count : (s : Parts) (lane round : ℕ) (prices : List ℤ) (quota_prices : List ℕ) → IsRoundPrices s lane round prices quota_prices
    → length prices ≡ length (listed s)
round_count s lane zero prices quota_prices (first, quotas) = ap length first ∙ length-map (listed s) (λ x. pos 0)
round_count s lane (suc round) prices quota_prices (before, before_quota, is_round, next) =
    let c : ℕ → ℤ = net_price s before before_quota in
    ap length next.moved
    ∙ length-map (listed s) (λ x. moved_price (step_of lane round (greatest_value s)) (price s before x.request.request.0)
    (uses_of next.starts x.request.request.0) (is_taken s c x.request.request.0))

-- and a quota price for each quota
pub round_quota_count : (s : Parts) (lane round : ℕ) (prices : List ℤ) (quota_prices : List ℕ) → IsRoundPrices s lane round prices quota_prices
    → length quota_prices ≡ length s.quotas
round_quota_count s lane zero prices quota_prices (first, quotas) = ap length quotas ∙ length-map s.quotas (λ q. 0)
round_quota_count s lane (suc round) prices quota_prices (before, before_quota, is_round, next) =
    let c : ℕ → ℤ = net_price s before before_quota in
    ap length next.moved_quota
    ∙ length-map (enumerate_from 0 s.quotas)
    (λ q. moved_quota_price (step_of lane round (greatest_value s)) (slice_index_or before_quota q.0 0) (demand_of s c q.0) q.1)
    ∙ length-enumerate_from 0 s.quotas
