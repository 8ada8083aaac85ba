-- Starts by slice, and the possible starts that they are.
use Rattle.std.specs.Prelude.{◌≡◌, ℕ, ◌+◌, ◌-◌, ◌≤◌, ◌<◌, ◌⊎◌, ℤ, List, [], length, slice_index_or, Contains}
use Rattle.plan_base.specs.declared.parts.Parts.{Parts}
use Rattle.plan_base.specs.declared.claim.Placement.{Placement}
use Rattle.plan_base.specs.Requests.{place_of}
use Rattle.plan_base.specs.Starts.{size_of, IsPossibleStart}
use Rattle.plan_base.specs.Bound.{weight}
use Rattle.bound_checker.specs.declared.table.Start.{Start}
use Rattle.bound_checker.specs.declared.worth.Offer.{Offer}
use Rattle.bound_checker.specs.declared.sight.Sight.{Sight}
use Rattle.plan_base.specs.Tables.{row, IsStartOn}
use Rattle.bound_checker.specs.Offers.{offer_weight}
use Rattle.bound_checker.specs.Sights.{IsInSight}

-- the start of an offer in row i, where the rows begin at the slice `first`
abbrev pub start_in : Offer → ℕ → ℕ → Start
start_in o first i = record { weight = offer_weight o (first + i); after = i + o.size }

-- the new rows have what the old ones have and the offer's starts at the slices of which P holds, and nothing else
pub record IsAdded (o : Offer) (first : ℕ) (P : ℕ → Type 0) (old new : List (List Start)) : Type 0 where
  pub count : length new ≡ length old
  pub kept : (i : ℕ) (x : Start) → Contains (row old i) x → Contains (row new i) x
  pub added : (i : ℕ) → i < length old → P (first + i) → Contains (row new i) (start_in o first i)
  pub nothing_else : (i : ℕ) (x : Start) → Contains (row new i) x → Contains (row old i) x ⊎ (P (first + i) × (x ≡ start_in o first i))

-- slice k is within the horizon, and the observation in sight
pub record CanStart (s : Parts) (sight : Sight) (o : Offer) (k : ℕ) : Type 0 where
  pub begins : s.first.0 ≤ k
  pub ends : k + o.size ≤ s.first.0 + s.slices
  pub in_sight : IsInSight sight o.observation k

-- what the row says of the possible start p
pub record IsToldBy (s : Parts) (prices : List ℤ) (p : Placement) (x : Start) : Type 0 where
  pub gives : x.weight ≡ weight s prices p
  pub after : s.first.0 + x.after ≡ p.slice.0 + size_of s p.request.0

-- row i has possible starts of telescope t at slice i of the horizon, and all of which P holds
pub record IsListing (s : Parts) (prices : List ℤ) (t : ℕ) (P : Placement → Type 0) (rows : List (List Start)) : Type 0 where
  pub count : length rows ≡ s.slices
  pub possible : (i : ℕ) (x : Start) → Contains (row rows i) x → (p : Placement) × IsStartOn s t p × (p.slice.0 ≡ s.first.0 + i) × IsToldBy s prices p x
  pub complete : (p : Placement) → IsStartOn s t p → P p → (x : Start) × Contains (row rows (p.slice.0 - s.first.0)) x × IsToldBy s prices p x

-- the request of p stands before place n
abbrev pub IsBefore : Parts → ℕ → Placement → Type 0
IsBefore s n p = place_of s p.request.0 < n
