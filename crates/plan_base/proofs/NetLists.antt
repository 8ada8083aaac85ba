-- The list of net prices has the net prices.
use Rattle.std.proofs.Common.{◌≡◌, ℕ, ◌<◌, ◌≤◌, ◌⊎◌, inl, inr, ℤ, pos, ◌-ℤ◌, List, length, map, Option, None, sym, ◌∙◌, ap, arith}
use Rattle.std.proofs.lemmas.Int.{ints}
use Rattle.std.proofs.lemmas.List.{length-map, get_or-map, get_or_past}
use Rattle.plan_base.specs.declared.parts.Parts.{Parts}
use Rattle.plan_base.specs.Requests.{Listed, listed, place_of, known_or, seconds_of}
use Rattle.plan_base.specs.Bound.{price, quota_cost, net_price}
use Rattle.plan_base.specs.NetPrices.{net_prices}
use Rattle.plan_base.proofs.Known.{IsListedAs, known_as}

below_or_from : (k n : ℕ) → (k < n) ⊎ (n ≤ k)
below_or_from k n = grind arith

-- where there is no such request, nothing is known of it
unknown : {X : Type 0} (f : Listed → X) (d : X) (s : Parts) (r : ℕ) → length (listed s) ≤ place_of s r → known_or f d s r ≡ d
unknown f d s r l = let count : length (map f (listed s)) ≡ length (listed s) = length-map (listed s) f in
    get_or_past (map f (listed s)) (place_of s r) d (omega arith)

less_none : (c : ℤ) → c ≡ pos 0 → (c -ℤ pos 0) ≡ pos 0
less_none c e = omega (arith, ints)

-- the prices in the list of net prices are the net prices
net_at : (s : Parts) (prices : List ℤ) (quota_prices : List ℕ) (r : ℕ) → length prices ≡ length (listed s)
    → price s (net_prices s prices quota_prices) r ≡ net_price s prices quota_prices r
net_at s prices quota_prices r count = elim (below_or_from (place_of s r) (length (listed s))) [
  | inl known ↦
      let x : (x : Listed) × IsListedAs s r x = known_as s r known in
      get_or-map (λ y. net_price s prices quota_prices y.request.request.0) (listed s) (place_of s r) x.0 (pos 0) known
      ∙ ap (λ (y : Listed). net_price s prices quota_prices y.request.request.0) x.1.at_place
      ∙ ap (net_price s prices quota_prices) x.1.number
  | inr none ↦
      let size : length (net_prices s prices quota_prices) ≡ length (listed s) =
      length-map (listed s) (λ y. net_price s prices quota_prices y.request.request.0) in
      let past : price s (net_prices s prices quota_prices) r ≡ pos 0 = get_or_past (net_prices s prices quota_prices) (place_of s r) (pos 0) (omega arith) in
      let own : price s prices r ≡ pos 0 = get_or_past prices (place_of s r) (pos 0) (omega arith) in
      let free : net_price s prices quota_prices r ≡ price s prices r -ℤ pos 0
      = ap (λ (o : Option ℕ). price s prices r -ℤ pos (quota_cost quota_prices (seconds_of s r) o)) (unknown (λ x. x.quota) None s r none)
      in
      past ∙ sym (free ∙ less_none (price s prices r) own)
]

pub nets_are : (s : Parts) (prices : List ℤ) (quota_prices : List ℕ) (net : List ℤ) → length prices ≡ length (listed s)
    → net ≡ net_prices s prices quota_prices → price s net ≡ net_price s prices quota_prices
nets_are s prices quota_prices net count is = ap (price s) is ∙ (λ i r. net_at s prices quota_prices r count i)
