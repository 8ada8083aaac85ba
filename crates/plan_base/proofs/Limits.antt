-- How large the value of a feasible plan and the bound that prices give can be.
use Rattle.std.proofs.Common.{◌+◌, ◌-◌, ◌*◌, ◌^◌, ◌≡◌, ◌≢◌, ℕ, ◌≤◌, ◌<◌, ◌⊎◌, inl, inr, ◌==◌, ℤ, pos, neg_ℤ, ◌+ℤ◌, ◌-ℤ◌, ◌≤ℤ◌, ◌<ℤ◌, List, [], length}
use Rattle.std.proofs.Common.{map, slice_index_or, filter, All, AllPairs, Contains, Option, Some, None, sym, ◌∙◌, ap, subst, arith}
use Rattle.std.proofs.lemmas.Int.{ints}
use Rattle.std.proofs.lemmas.Nat.{mul-le}
use Rattle.std.proofs.lemmas.Bool.{eq-eqb}
use Rattle.std.proofs.lemmas.List.{length-map, get_or_past}
use Rattle.std.proofs.lemmas.List.Elements.{All-nil, All-map}
use Rattle.std.proofs.lemmas.List.Sums.{sum_by-le}
use Rattle.plan_base.specs.Limits.{most_pending, most_telescopes}
use Rattle.plan_base.specs.declared.parts.Parts.{Parts}
use Rattle.plan_base.specs.declared.fault.Counted.TheVariants.{Telescopes, Requests, Quotas}
use Rattle.plan_base.specs.declared.number.TelescopeNo.{TelescopeNo}
use Rattle.plan_base.specs.declared.claim.Placement.{Placement}
use Rattle.plan_base.specs.Sums.{total, IsSumOf}
use Rattle.plan_base.specs.Requests.{Listed, listed, place_of, IsKnown, group_of, quota_of, seconds_of, request_value, IsOf}
use Rattle.plan_base.specs.Snapshot.{IsOrderly}
use Rattle.plan_base.specs.Starts.{IsPossibleStart, ShareSlice, size_of, worth_at, value_of_plan}
use Rattle.plan_base.specs.Feasible.{requests_of, quota_at, IsFeasible}
use Rattle.plan_base.specs.Bound.{price, weight, IsStartList, surplus, IsBest, quota_cost, net_price, IsAllowedChoice, IsRebate, IsQuotaPart, IsBound}
use Rattle.plan_base.specs.Verdict.{IsPriceInRange}
use Rattle.plan_base.proofs.Lists.{contains_filter, contains_map, AllPairs-map, length_among, length_below}
use Rattle.plan_base.proofs.Totals.{total_at_most, total_constant}
use Rattle.plan_base.proofs.Split.{gather, sum_not_negative, sum_between}
use Rattle.plan_base.proofs.Sizes.{start_size_above}
use Rattle.plan_base.proofs.Known.{known_has, IsListedAs, known_as, known_or_is, requests_known, worth_between, value_at_most}

-- how many there are of each
telescopes_at_most : (s : Parts) → IsOrderly s → length s.telescopes ≤ most_telescopes
telescopes_at_most s o = o.within Telescopes 0 0 (omega arith)

requests_at_most : (s : Parts) → IsOrderly s → length (listed s) ≤ most_pending
requests_at_most s o = o.within Requests 0 0 (omega arith)

quotas_at_most : (s : Parts) → IsOrderly s → length s.quotas ≤ most_pending
quotas_at_most s o = o.within Quotas 0 0 (omega arith)

-- the numbers of the requests of the group at place g, as they are listed
abbrev numbers_of : Parts → ℕ → List ℕ
numbers_of s g = map (λ x. x.request.request.0) (filter (λ x. x.group == g) (listed s))

number_listed : (s : Parts) (r : ℕ) → IsKnown s r → Contains (map (λ x. x.request.request.0) (listed s)) r
number_listed s r k =
    let x : (x : Listed) × IsListedAs s r x = known_as s r k in
    subst (λ (n : ℕ). Contains (map (λ x. x.request.request.0) (listed s)) n) x.1.number (contains_map (λ x. x.request.request.0) (listed s) x.0 x.1.in_list)

number_in_group : (s : Parts) (g r : ℕ) → IsOf s g r → Contains (numbers_of s g) r
number_in_group s g r h =
    let x : (x : Listed) × IsListedAs s r x = known_as s r h.0 in
    let group : group_of s r ≡ x.0.group = known_or_is (λ y. y.group) 0 s r x.0 h.0 x.1 in
    let same : x.0.group ≡ g = sym group ∙ h.1 in
    subst (λ (n : ℕ). Contains (numbers_of s g) n) x.1.number
    (contains_map (λ y. y.request.request.0) (filter (λ y. y.group == g) (listed s)) x.0
    (contains_filter (λ y. y.group == g) (listed s) x.0 x.1.in_list (eq-eqb _ g same)))

-- a feasible plan has as many placements as there are requests, or fewer
pub length_of_plan : (s : Parts) (plan : List Placement) → IsFeasible s plan → length plan ≤ length (listed s)
length_of_plan s plan f =
    let among : length (requests_of plan) ≤ length (map (λ x. x.request.request.0) (listed s)) =
    length_among (requests_of plan) _ f.once (λ i d l. number_listed s _ (requests_known s plan f i d l)) in
    let placed : length (requests_of plan) ≡ length plan = length-map plan (λ p. p.request.0) in
    let all : length (map (λ x. x.request.request.0) (listed s)) ≡ length (listed s) = length-map (listed s) (λ x. x.request.request.0) in
    omega arith

first_then : (a b c : ℕ) → a ≤ b → b ≤ c → a ≤ c
first_then a b c h k = omega arith

pub worth_at_most : (s : Parts) (p : Placement) → IsOrderly s → IsPossibleStart s p → worth_at s p ≤ 288000000
worth_at_most s p o h =
    let first : worth_at s p ≤ request_value s p.request.0 = (worth_between s p o h).1 in
    let second : request_value s p.request.0 ≤ 288000000 = value_at_most s p.request.0 o h.known in
    first_then _ _ _ first second

-- no feasible plan is worth 10^12
pub value_limit : (s : Parts) (plan : List Placement) → IsOrderly s → IsFeasible s plan → value_of_plan s plan < 10 ^ 12
value_limit s plan o f =
    let sum : value_of_plan s plan ≤ length plan * 288000000 = sum_by-le (worth_at s) 288000000 plan (λ i d l. worth_at_most s _ o (f.possible i d l)) in
    let count : length plan ≤ length (listed s) = length_of_plan s plan f in
    let most : length (listed s) ≤ most_pending = requests_at_most s o in
    omega arith

-- by telescope
same_telescope : (a b : TelescopeNo) (t : ℕ) → a.0 ≡ t → b.0 ≡ t → a ≡ b
same_telescope a b t h k = ap (λ (n : ℕ). let x : TelescopeNo = record { 0 = n } in x) (h ∙ sym k)

shares : (s : Parts) (a b : Placement) → IsOrderly s → IsPossibleStart s a → IsPossibleStart s b → a.telescope ≡ b.telescope
    → a.slice.0 - s.first.0 ≡ b.slice.0 - s.first.0 → ShareSlice s a b
shares s a b o h k e g =
    let one : 0 < size_of s a.request.0 = start_size_above s o a h in
    let two : 0 < size_of s b.request.0 = start_size_above s o b k in
    let from : s.first.0 ≤ a.slice.0 = h.begins in
    let also : s.first.0 ≤ b.slice.0 = k.begins in
    (e, a.slice.0, (omega arith, omega arith), (omega arith, omega arith))

within_horizon : (s : Parts) (p : Placement) → IsOrderly s → IsPossibleStart s p → p.slice.0 - s.first.0 < s.slices
within_horizon s p o h =
    let one : 0 < size_of s p.request.0 = start_size_above s o p h in
    let from : s.first.0 ≤ p.slice.0 = h.begins in
    let ends : p.slice.0 + size_of s p.request.0 ≤ s.first.0 + s.slices = h.ends in
    omega arith

-- a list of starts has as many as the horizon has slices, or fewer: each takes one of its own
pub length_of_starts : (s : Parts) (t k : ℕ) (starts : List Placement) → IsOrderly s → IsStartList s t k starts → length starts ≤ s.slices
length_of_starts s t k starts o h =
    let places : List ℕ = map (λ p. p.slice.0 - s.first.0) starts in
    let once : AllPairs (λ a b. a ≢ b) places = AllPairs-map (λ a b. a ≢ b) (λ p. p.slice.0 - s.first.0) starts
    (λ i j d l m e. h.disjoint i j d l m
    (shares s _ _ o (h.possible i d (omega arith)) (h.possible j d m)
    (same_telescope _ _ t (h.same_telescope i d (omega arith)) (h.same_telescope j d m)) e)) in
    let below : All (λ n. n < s.slices) places =
    All-map (λ n. n < s.slices) (λ p. p.slice.0 - s.first.0) starts (λ i d l. within_horizon s _ o (h.possible i d l)) in
    let count : length places ≤ s.slices = length_below places s.slices once below in
    let same : length places ≡ length starts = length-map starts (λ p. p.slice.0 - s.first.0) in
    omega arith

below_or_from : (j k : ℕ) → (j < k) ⊎ (k ≤ j)
below_or_from j k = grind arith

-- what stands at a place, or 0 past the end, of prices in their range
pub price_in_range : (prices : List ℤ) (i : ℕ) → All IsPriceInRange prices → IsPriceInRange (slice_index_or prices i (pos 0))
price_in_range prices i a = elim (below_or_from i (length prices)) [
  | inl l ↦ a i (pos 0) l
  | inr l ↦ let past : slice_index_or prices i (pos 0) ≡ pos 0 = get_or_past prices i (pos 0) l in (omega (arith, ints), omega (arith, ints))
]

difference_between : (w : ℕ) (c : ℤ) → w ≤ 288000000 → IsPriceInRange c → (neg_ℤ (pos (10 ^ 12)) ≤ℤ (pos w -ℤ c)) × ((pos w -ℤ c) ≤ℤ pos 1000288000000)
difference_between w c h r = (omega (arith, ints), omega (arith, ints))

-- a possible start's weight at prices in their range
pub weight_between : (s : Parts) (prices : List ℤ) (p : Placement) → IsOrderly s → All IsPriceInRange prices → IsPossibleStart s p
    → (neg_ℤ (pos (10 ^ 12)) ≤ℤ weight s prices p) × (weight s prices p ≤ℤ pos 1000288000000)
weight_between s prices p o a h = difference_between (worth_at s p) (price s prices p.request.0) (worth_at_most s p o h)
    (price_in_range prices (place_of s p.request.0) a)

-- a best at prices in their range
pub best_between : (s : Parts) (prices : List ℤ) (t k : ℕ) (b : ℤ) → IsOrderly s → All IsPriceInRange prices → IsBest s prices t k b
    → (pos 0 ≤ℤ b) × (b ≤ℤ pos 1440414720000000)
best_between s prices t k b o a best =
    let none : IsStartList s t k [] = record {
      possible = All-nil (IsPossibleStart s);
      same_telescope = All-nil (λ p. p.telescope.0 ≡ t);
      later = All-nil (λ p. k ≤ p.slice.0);
      disjoint = λ i j d l m. absurd (omega arith);
    } in
    let least : pos 0 ≤ℤ b = best.bound [] none in
    let starts : List Placement = best.reached.0 in
    let sum : surplus s prices starts ≤ℤ pos (length starts * 1000288000000) =
    total_at_most (weight s prices) 1000288000000 starts (λ i d l. (weight_between s prices _ o a (best.reached.1.possible i d l)).1) in
    let count : length starts ≤ s.slices = length_of_starts s t k starts o best.reached.1 in
    let slices : s.slices ≤ 1440 = o.ranges.slices_most in
    let is : surplus s prices starts ≡ b = best.reached.2 in
    (least, omega (arith, ints))

-- what stands at a place, or 0 past the end, of quota prices in their range
pub quota_price_at_most : (quota_prices : List ℕ) (q : ℕ) → All (λ u. u ≤ 200000) quota_prices → slice_index_or quota_prices q 0 ≤ 200000
quota_price_at_most quota_prices q a = elim (below_or_from q (length quota_prices)) [
  | inl l ↦ a q 0 l
  | inr l ↦ let past : slice_index_or quota_prices q 0 ≡ 0 = get_or_past quota_prices q 0 l in omega arith
]

quota_cost_at_most : (quota_prices : List ℕ) (seconds : ℕ) (o : Option ℕ) → All (λ u. u ≤ 200000) quota_prices → seconds ≤ 86400
    → quota_cost quota_prices seconds o ≤ 200000 * 86400
quota_cost_at_most quota_prices seconds None u h = omega arith
quota_cost_at_most quota_prices seconds (Some q) u h = mul-le _ _ 200000 86400 (quota_price_at_most quota_prices q u) h

net_between : (c : ℤ) (n : ℕ) → IsPriceInRange c → n ≤ 200000 * 86400 → (neg_ℤ (pos (2 * 10 ^ 12)) ≤ℤ (c -ℤ pos n)) × ((c -ℤ pos n) ≤ℤ pos (10 ^ 12))
net_between c n r h = (omega (arith, ints), omega (arith, ints))

-- the net price of a known request at prices in their ranges
pub net_price_between : (s : Parts) (prices : List ℤ) (quota_prices : List ℕ) (r : ℕ) → IsOrderly s → IsKnown s r → All IsPriceInRange prices
    → All (λ u. u ≤ 200000) quota_prices
    → (neg_ℤ (pos (2 * 10 ^ 12)) ≤ℤ net_price s prices quota_prices r) × (net_price s prices quota_prices r ≤ℤ pos (10 ^ 12))
net_price_between s prices quota_prices r o k a u =
    net_between (price s prices r) (quota_cost quota_prices (seconds_of s r) (quota_of s r)) (price_in_range prices (place_of s r) a)
    (quota_cost_at_most quota_prices (seconds_of s r) (quota_of s r) u
    (known_has (λ n. n ≤ 86400) (λ x. x.request.seconds) 0 s r (λ i d l. (o.ranges.seconds i d l).1) k))

-- by group
-- an allowed choice has as many requests as are listed of its group, or fewer
pub length_of_choice : (s : Parts) (g : ℕ) (choice : List ℕ) → IsAllowedChoice s g choice → length choice ≤ length (filter (λ x. x.group == g) (listed s))
length_of_choice s g choice h =
    let among : length choice ≤ length (numbers_of s g) = length_among choice (numbers_of s g) h.once (λ i d l. number_in_group s g _ (h.members i d l)) in
    let same : length (numbers_of s g) ≡ length (filter (λ x. x.group == g) (listed s)) =
    length-map (filter (λ x. x.group == g) (listed s)) (λ x. x.request.request.0) in
    omega arith

rebate_not_negative : (s : Parts) (c : ℕ → ℤ) (g : ℕ) (b : ℤ) → IsRebate s c g b → pos 0 ≤ℤ b
rebate_not_negative s c g b rebate =
    let none : IsAllowedChoice s g [] = record {
      members = All-nil (IsOf s g);
      once = λ i j d l m. absurd (omega arith);
      one_of = λ k. omega arith;
      whole = λ k. inr (λ r o h. absurd (omega (arith, h.1)));
    } in
    rebate.bound [] none

rebate_at_most : (s : Parts) (prices : List ℤ) (quota_prices : List ℕ) (g : ℕ) (b : ℤ) → IsOrderly s → All IsPriceInRange prices
    → All (λ u. u ≤ 200000) quota_prices → IsRebate s (net_price s prices quota_prices) g b
    → b ≤ℤ total (λ x. pos (10 ^ 12)) (filter (λ x. x.group == g) (listed s))
rebate_at_most s prices quota_prices g b o a u rebate =
    let choice : List ℕ = rebate.reached.0 in
    let count : length choice ≤ length (filter (λ x. x.group == g) (listed s)) = length_of_choice s g choice rebate.reached.1 in
    let sum : total (net_price s prices quota_prices) choice ≤ℤ pos (length choice * 10 ^ 12) =
    total_at_most (net_price s prices quota_prices) (10 ^ 12) choice
    (λ i d l. (net_price_between s prices quota_prices _ o (rebate.reached.1.members i d l).0 a u).1) in
    let is : total (net_price s prices quota_prices) choice ≡ b = rebate.reached.2 in
    let all : total (λ x. pos (10 ^ 12)) (filter (λ x. x.group == g) (listed s)) ≡ pos (length (filter (λ x. x.group == g) (listed s)) * 10 ^ 12) =
    total_constant (10 ^ 12) (filter (λ x. x.group == g) (listed s)) in
    omega (arith, ints)

rebates_between : (s : Parts) (prices : List ℤ) (quota_prices : List ℕ) (b : ℤ) → IsOrderly s → All IsPriceInRange prices → All (λ u. u ≤ 200000) quota_prices
    → IsSumOf (length s.groups) (IsRebate s (net_price s prices quota_prices)) b → (pos 0 ≤ℤ b) × (b ≤ℤ pos (1024 * 10 ^ 12))
rebates_between s prices quota_prices b o a u sum =
    let least : pos 0 ≤ℤ b = sum_not_negative (length s.groups) (IsRebate s (net_price s prices quota_prices)) b sum
    (λ g y l rebate. rebate_not_negative s (net_price s prices quota_prices) g y rebate) in
    let all : b ≤ℤ total (λ x. pos (10 ^ 12)) (listed s) =
    gather (λ x. pos (10 ^ 12)) (λ x. x.group) (listed s) (length s.groups) (IsRebate s (net_price s prices quota_prices)) b sum
    (λ i d l. omega (arith, ints)) (λ g y l rebate. rebate_at_most s prices quota_prices g y o a u rebate) in
    let is : total (λ x. pos (10 ^ 12)) (listed s) ≡ pos (length (listed s) * 10 ^ 12) = total_constant (10 ^ 12) (listed s) in
    let most : length (listed s) ≤ most_pending = requests_at_most s o in
    (least, omega (arith, ints))

-- by quota
quota_part_between : (s : Parts) (quota_prices : List ℕ) (q : ℕ) (y : ℤ) → IsOrderly s → All (λ u. u ≤ 200000) quota_prices → q < length s.quotas
    → IsQuotaPart s quota_prices q y
    → (pos 0 ≤ℤ y) × (y ≤ℤ pos 20000000000000)
quota_part_between s quota_prices q y o u l part =
    let one : slice_index_or quota_prices q 0 ≤ 200000 = quota_price_at_most quota_prices q u in
    let two : quota_at s q ≤ 100000000 = o.quota_ranges q 0 l in
    let both : slice_index_or quota_prices q 0 * quota_at s q ≤ 200000 * 100000000 = mul-le _ _ 200000 100000000 one two in
    let is : y ≡ pos (slice_index_or quota_prices q 0 * quota_at s q) = part in
    (omega (arith, ints), omega (arith, ints))

sums_between : (t q : ℕ) (a b c d : ℤ) → t ≤ 32 → q ≤ 1024
    → (pos 0 ≤ℤ a) × (a ≤ℤ pos (t * 1440414720000000)) → (pos 0 ≤ℤ b) × (b ≤ℤ pos (1024 * 10 ^ 12)) → (pos 0 ≤ℤ c) × (c ≤ℤ pos (q * 20000000000000))
    → d ≡ a +ℤ b +ℤ c → (pos 0 ≤ℤ d) × (d <ℤ pos (10 ^ 17))
sums_between t q a b c d ht hq ha hb hc e = (omega (arith, ints), omega (arith, ints))

-- the bound of prices in their ranges is not negative, and below 10^17
pub bound_limit : (s : Parts) (prices : List ℤ) (quota_prices : List ℕ) (b : ℤ) → IsOrderly s → All IsPriceInRange prices → All (λ u. u ≤ 200000) quota_prices
    → IsBound s prices quota_prices b → (pos 0 ≤ℤ b) × (b <ℤ pos (10 ^ 17))
bound_limit s prices quota_prices b o a u bound =
    sums_between (length s.telescopes) (length s.quotas) bound.bests bound.rebates bound.quotas b (telescopes_at_most s o) (quotas_at_most s o)
    (sum_between (length s.telescopes) 1440414720000000 (λ t. IsBest s prices t s.first.0) bound.bests bound.best
    (λ t y l best. best_between s prices t s.first.0 y o a best))
    (rebates_between s prices quota_prices bound.rebates o a u bound.rebate)
    (sum_between (length s.quotas) 20000000000000 (IsQuotaPart s quota_prices) bound.quotas bound.quota
    (λ q y l part. quota_part_between s quota_prices q y o u l part))
    bound.whole
