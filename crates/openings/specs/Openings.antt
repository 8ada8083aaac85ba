-- Where a request may start: a row of flags for each telescope, with a flag for each slice.
use Rattle.std.specs.Prelude.{◌≡◌, ◌↔◌, ℕ, ◌+◌, ◌≤◌, ◌<◌, ℤ, Bool, true, false, List, length, slice_index_or}
use Rattle.plan_base.specs.declared.parts.Parts.{Parts}
use Rattle.plan_base.specs.declared.claim.Placement.{Placement}
use Rattle.plan_base.specs.Requests.{IsKnown, seconds_of, request_value, fade_of}
use Rattle.plan_base.specs.Starts.{size_of, earliest_slice, IsPossibleStart}
use Rattle.plan_base.specs.Bound.{price, weight}
use Rattle.plan_base.specs.Tables.{row}
use Rattle.bound_checker.specs.declared.worth.Offer.{Offer}
use Rattle.bound_checker.specs.Offers.{IsOfferRange, offer_weight}
use Rattle.openings.specs.declared.opening.Openings.{Openings}

-- a possible start of request r
pub record IsStartFor (s : Parts) (r : ℕ) (p : Placement) : Type 0 where
  pub possible : IsPossibleStart s p
  pub same_request : p.request.0 ≡ r

-- a possible start of request r on telescope t
pub record IsStartAt (s : Parts) (t r : ℕ) (p : Placement) : Type 0 where
  pub start : IsStartFor s r p
  pub same_telescope : p.telescope.0 ≡ t

-- the flag at place i is set
abbrev pub IsSet : List Bool → ℕ → Type 0
IsSet flags i = slice_index_or flags i false ≡ true

-- one of the flags from place a to the one before b is set
abbrev pub HasFlagWithin : List Bool → ℕ → ℕ → Type 0
HasFlagWithin flags a b = (i : ℕ) × (a ≤ i) × (i < b) × IsSet flags i

-- at most n flags, which are set where P holds
pub record IsFlagged (P : ℕ → Type 0) (n : ℕ) (flags : List Bool) : Type 0 where
  pub few : length flags ≤ n
  pub each : (i : ℕ) → IsSet flags i ↔ P i

-- request r has a start on telescope t at slice k
abbrev pub CanStartAt : Parts → ℕ → ℕ → ℕ → Type 0
CanStartAt s t r k = (p : Placement) × IsStartAt s t r p × (p.slice.0 ≡ k)

-- the flags say for each slice of the horizon whether request r has a start there on telescope t
abbrev pub IsOpenRow : Parts → ℕ → ℕ → List Bool → Type 0
IsOpenRow s t r flags = IsFlagged (λ i. CanStartAt s t r (s.first.0 + i)) s.slices flags

-- what request r offers at the prices: its length, its price, and what it is worth from the first slice of its windows on
pub record IsOfferOf (s : Parts) (prices : List ℤ) (r : ℕ) (o : Offer) : Type 0 where
  pub len : o.observation.len ≡ s.len
  pub seconds : o.observation.seconds ≡ seconds_of s r
  pub size : o.size ≡ size_of s r
  pub price : o.price ≡ price s prices r
  pub value : o.value ≡ request_value s r
  pub fade : o.fade ≡ fade_of s r
  pub earliest : o.earliest ≡ earliest_slice s r
  pub weighs : (p : Placement) → p.request.0 ≡ r → s.first.0 ≤ p.slice.0 → offer_weight o p.slice.0 ≡ weight s prices p
  pub range : IsOfferRange o

-- the rows of the first n telescopes, of request r
pub record AreRowsTo (s : Parts) (r n : ℕ) (rows : List (List Bool)) : Type 0 where
  pub count : length rows ≡ n
  pub each : (t : ℕ) → t < n → IsOpenRow s t r (row rows t)

-- what the request offers, and a row for each telescope
pub record AreOpenings (s : Parts) (prices : List ℤ) (x : Openings) : Type 0 where
  pub known : IsKnown s x.request.0
  pub offer : IsOfferOf s prices x.request.0 x.offer
  pub rows : AreRowsTo s x.request.0 (length s.telescopes) x.rows.items
