-- The one list of starts by which a telescope reaches its best.
use Rattle.std.specs.Prelude.{◌≡◌, ℕ, suc, ◌+◌, ◌≤◌, ◌<◌, ℤ, ◌+ℤ◌, List, [], ◌∷◌, length, slice_index_or}
use Rattle.std.specs.List.{flat_map}
use Rattle.plan_base.specs.declared.parts.Parts.{Parts}
use Rattle.plan_base.specs.declared.claim.Placement.{Placement}
use Rattle.plan_base.specs.Starts.{IsPossibleStart, size_of}
use Rattle.plan_base.specs.Bound.{weight, IsBest}

-- the best from slice k on is that from the next slice on
abbrev pub IsIdle : Parts → List ℤ → ℕ → ℕ → Type 0
IsIdle s prices t k = (b : ℤ) × IsBest s prices t k b × IsBest s prices t (suc k) b

-- the start's weight and the best after its last slice are the best from its slice on
abbrev pub IsTight : Parts → List ℤ → ℕ → Placement → Type 0
IsTight s prices t p = (after : ℤ) × IsBest s prices t (p.slice.0 + size_of s p.request.0) after × IsBest s prices t p.slice.0 (weight s prices p +ℤ after)

-- at a slice that isn't idle, the lowest request that is tight there starts
pub record StartsLowest (s : Parts) (prices : List ℤ) (t : ℕ) (p : Placement) : Type 0 where
  pub possible : IsPossibleStart s p
  pub same_telescope : p.telescope.0 ≡ t
  pub busy : ¬ (IsIdle s prices t p.slice.0)
  pub tight : IsTight s prices t p
  pub lowest : (q : Placement) → IsPossibleStart s q → q.telescope ≡ p.telescope → q.slice ≡ p.slice → IsTight s prices t q → p.request.0 ≤ q.request.0

-- each slice from k up to the one before j is idle
abbrev pub IsIdleUpTo : Parts → List ℤ → ℕ → ℕ → ℕ → Type 0
IsIdleUpTo s prices t k j = (i : ℕ) → k ≤ i → i < j → IsIdle s prices t i

-- what telescope t starts from slice k on
abbrev pub IsCanonicalFrom : Parts → List ℤ → ℕ → ℕ → List Placement → Type 0
IsCanonicalFrom s prices t k [] = IsIdleUpTo s prices t k (s.first.0 + s.slices)
IsCanonicalFrom s prices t k (p ∷ ps) =
    (k ≤ p.slice.0) × IsIdleUpTo s prices t k p.slice.0 × StartsLowest s prices t p × IsCanonicalFrom s prices t (p.slice.0 + size_of s p.request.0) ps

-- what telescope t starts at these prices
abbrev pub IsCanonicalUse : Parts → List ℤ → ℕ → List Placement → Type 0
IsCanonicalUse s prices t starts = IsCanonicalFrom s prices t s.first.0 starts

-- what all telescopes start at these prices, one after another
pub record IsCanonicalStarts (s : Parts) (prices : List ℤ) (starts : List Placement) : Type 0 where
  pub lists : List (List Placement)
  pub count : length lists ≡ length s.telescopes
  pub each : (t : ℕ) → t < length s.telescopes → IsCanonicalUse s prices t (slice_index_or lists t [])
  pub joined : starts ≡ flat_map (λ list. list) lists
