-- From what is written place by place to all prices after a round.
use Rattle.std.proofs.Common.{◌≡◌, ℕ, ◌<◌, ◌≤◌, ◌⊎◌, Bool, false, ℤ, pos, ◌≤ℤ◌, unsigned_abs, List, length, slice_index_or, All, sym, ◌∙◌, ap, subst, arith}
use Rattle.std.specs.Int.{int_max}
use Rattle.std.specs.List.{enumerate_from}
use Rattle.std.proofs.lemmas.Int.{ints, int_max_is}
use Rattle.std.proofs.lemmas.List.{length-map, get_or-map, ext_get_or}
use Rattle.std.proofs.lemmas.List.FromFn.{length-map-range_with_len, get_or-map-range_with_len, length-enumerate_from, get_or-enumerate_from}
use Rattle.plan_base.specs.declared.parts.Parts.{Parts}
use Rattle.plan_base.specs.declared.claim.Placement.{Placement}
use Rattle.plan_base.specs.Requests.{listed}
use Rattle.plan_base.specs.Snapshot.{IsOrderly}
use Rattle.plan_base.specs.Bound.{price, net_price}
use Rattle.plan_base.specs.Verdict.{IsPriceInRange}
use Rattle.plan_base.specs.Round.{is_taken, uses_of, demand_of, moved_price, moved_quota_price, next_prices, next_quota_prices}
use Rattle.plan_base.specs.NetPrices.{net_prices}
use Rattle.groups.proofs.Runs.{number_of, place_at}
use Rattle.prices.specs.Rounds.{number_at, AreUses, stepped_price, step_size, prices_after}
use Rattle.prices.specs.Takings.{AreTaken}
use Rattle.plan_base.proofs.NetLists.{nets_are}
use Rattle.prices.proofs.Demanding.{nothing}

below_or_from : (k n : ℕ) → (k < n) ⊎ (n ≤ k)
below_or_from k n = grind arith

-- a step that isn't negative goes up by itself
pub size_is : (step : ℤ) → pos 0 ≤ℤ step → pos (step_size step) ≡ step
size_is step up =
    let same : int_max step (pos 0) ≡ step = omega (arith, ints, int_max_is step (pos 0), up) in
    ap (λ (z : ℤ). pos (unsigned_abs z)) same ∙ itself step up
  where
    itself : (z : ℤ) → pos 0 ≤ℤ z → pos (unsigned_abs z) ≡ z
    itself z l = omega (arith, ints, l)

-- the price at a place after a round
pub after_at : (s : Parts) (step : ℤ) (prices : List ℤ) (c : ℕ → ℤ) (uses : List ℕ) (i : ℕ) (d : ℤ) → i < length (listed s)
    → slice_index_or (prices_after s step prices c uses) i d ≡ stepped_price step (slice_index_or prices i (pos 0)) (slice_index_or uses i 0)
    (is_taken s c (number_at s i))
after_at s step prices c uses i d l =
    get_or-map-range_with_len (λ k. stepped_price step (slice_index_or prices k (pos 0)) (slice_index_or uses k 0) (is_taken s c (number_at s k))) 0
    (length (listed s)) i i d l (omega arith)

pub after_count : (s : Parts) (step : ℤ) (prices : List ℤ) (c : ℕ → ℤ) (uses : List ℕ) → length (prices_after s step prices c uses) ≡ length (listed s)
after_count s step prices c uses =
    length-map-range_with_len (λ k. stepped_price step (slice_index_or prices k (pos 0)) (slice_index_or uses k 0) (is_taken s c (number_at s k))) 0
    (length (listed s))

-- each price that is written stays in its range
pub stays_at : (s : Parts) (step : ℤ) (prices : List ℤ) (c : ℕ → ℤ) (uses : List ℕ) (flags : List Bool) (i : ℕ) → i < length (listed s)
    → AreTaken s c flags → All IsPriceInRange (prices_after s step prices c uses)
    → IsPriceInRange (stepped_price step (slice_index_or prices i (pos 0)) (slice_index_or uses i 0) (slice_index_or flags i false))
stays_at s step prices c uses flags i l taken stay =
    let count : length (prices_after s step prices c uses) ≡ length (listed s) = after_count s step prices c uses in
    subst IsPriceInRange (after_at s step prices c uses i (pos 0) l
    ∙ ap (stepped_price step (slice_index_or prices i (pos 0)) (slice_index_or uses i 0)) (sym (taken i l))) (stay i (pos 0) (omega arith))

-- prices that are written place by place are those after the round
pub after_is : (s : Parts) (step : ℤ) (prices now : List ℤ) (c : ℕ → ℤ) (uses : List ℕ) (flags : List Bool) → length prices ≡ length (listed s)
    → length now ≡ length prices → AreTaken s c flags
    → ((i : ℕ) → i < length prices → slice_index_or now i (pos 0) ≡ stepped_price step (slice_index_or prices i (pos 0)) (slice_index_or uses i 0)
    (slice_index_or flags i false)) → now ≡ prices_after s step prices c uses
after_is s step prices now c uses flags count same taken moved =
    ext_get_or (pos 0) now (prices_after s step prices c uses) (same ∙ count ∙ sym (after_count s step prices c uses)) (λ i l.
    let below : i < length (listed s) = omega (arith, same, count) in
    moved i (omega (arith, same)) ∙ ap (stepped_price step (slice_index_or prices i (pos 0)) (slice_index_or uses i 0)) (taken i below)
    ∙ sym (after_at s step prices c uses i (pos 0) below))

-- the prices after a round by starts are those by their uses
pub next_is : (s : Parts) (step : ℕ) (prices : List ℤ) (c : ℕ → ℤ) (uses : List ℕ) (starts : List Placement) → IsOrderly s → AreUses s starts uses
    → prices_after s (pos step) prices c uses ≡ next_prices s step prices c starts
next_is s step prices c uses starts o are =
    let count : length (prices_after s (pos step) prices c uses) ≡ length (listed s) = after_count s (pos step) prices c uses in
    let next : length (next_prices s step prices c starts) ≡ length (listed s)
    = length-map (listed s) (λ x. moved_price step (price s prices x.request.request.0) (uses_of starts x.request.request.0) (is_taken s c x.request.request.0))
    in
    ext_get_or (pos 0) (prices_after s (pos step) prices c uses) (next_prices s step prices c starts) (count ∙ sym next) (λ i l.
    let below : i < length (listed s) = omega (arith, count) in
    let r : ℕ = number_of (slice_index_or (listed s) i nothing) in
    let number : number_at s i ≡ r = get_or-map (λ x. x.request.request.0) (listed s) i nothing 0 below in
    let own : slice_index_or prices i (pos 0) ≡ price s prices r = ap (λ (k : ℕ). slice_index_or prices k (pos 0)) (sym (place_at s i nothing o below)) in
    let used : slice_index_or uses i 0 ≡ uses_of starts r = ap (λ (us : List ℕ). slice_index_or us i 0) are
    ∙ get_or-map (λ x. uses_of starts x.request.request.0) (listed s) i nothing 0 below in
    after_at s (pos step) prices c uses i (pos 0) below ∙ ap (λ (p : ℤ). moved_price step p (slice_index_or uses i 0) (is_taken s c (number_at s i))) own
    ∙ ap (λ (u : ℕ). moved_price step (price s prices r) u (is_taken s c (number_at s i))) used
    ∙ ap (λ (k : ℕ). moved_price step (price s prices r) (uses_of starts r) (is_taken s c k)) number
    ∙ sym (get_or-map (λ x. moved_price step (price s prices x.request.request.0) (uses_of starts x.request.request.0)
    (is_taken s c x.request.request.0)) (listed s) i nothing (pos 0) below))

-- quota prices that are written one after another are those after the round
pub next_quota_is : (s : Parts) (step : ℕ) (quota_prices now demands quotas : List ℕ) (c : ℕ → ℤ) → quotas ≡ s.quotas
    → length quota_prices ≡ length s.quotas → length now ≡ length quota_prices
    → ((q : ℕ) → slice_index_or demands q 0 ≡ demand_of s c q)
    → ((q : ℕ) → q < length quota_prices
    → slice_index_or now q 0 ≡ moved_quota_price step (slice_index_or quota_prices q 0) (slice_index_or demands q 0) (slice_index_or quotas q 0))
    → now ≡ next_quota_prices s step quota_prices c
next_quota_is s step quota_prices now demands quotas c e count same demand moved =
    let f : ℕ × ℕ → ℕ = λ q. moved_quota_price step (slice_index_or quota_prices q.0 0) (demand_of s c q.0) q.1 in
    let listing : length (enumerate_from 0 s.quotas) ≡ length s.quotas = length-enumerate_from 0 s.quotas in
    let size : length (next_quota_prices s step quota_prices c) ≡ length s.quotas = length-map (enumerate_from 0 s.quotas) f ∙ listing in
    ext_get_or 0 now (next_quota_prices s step quota_prices c) (same ∙ count ∙ sym size) (λ q l.
    let below : q < length s.quotas = omega (arith, same, count) in
    let at : slice_index_or (enumerate_from 0 s.quotas) q (0, 0) ≡ (q, slice_index_or s.quotas q 0) = get_or-enumerate_from 0 s.quotas q (0, 0) below
    ∙ ap (λ (k : ℕ). (k, slice_index_or s.quotas q 0)) (omega arith) in
    moved q (omega (arith, same)) ∙ ap (λ (n : ℕ). moved_quota_price step (slice_index_or quota_prices q 0) n (slice_index_or quotas q 0)) (demand q)
    ∙ ap (λ (qs : List ℕ). moved_quota_price step (slice_index_or quota_prices q 0) (demand_of s c q) (slice_index_or qs q 0)) e
    ∙ sym (get_or-map f (enumerate_from 0 s.quotas) q (0, 0) 0 (omega arith) ∙ ap f at))

-- what is taken at the prices in the list of net prices is taken at the net prices
pub taken_net : (s : Parts) (prices : List ℤ) (quota_prices : List ℕ) (net : List ℤ) (flags : List Bool) → length prices ≡ length (listed s)
    → net ≡ net_prices s prices quota_prices → AreTaken s (price s net) flags
    → AreTaken s (net_price s prices quota_prices) flags
taken_net s prices quota_prices net flags count is taken = subst (λ (f : ℕ → ℤ). AreTaken s f flags) (nets_are s prices quota_prices net count is) taken
