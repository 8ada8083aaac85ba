-- What start lists of a telescope give that end by a slice, and those that have a start of a request.
use Rattle.std.specs.Prelude.{◌≡◌, ℕ, suc, ◌≤◌, ◌<◌, ◌⊎◌, ℤ, pos, ◌+ℤ◌, ◌≤ℤ◌, List, All, AllPairs, Any}
use Rattle.plan_base.specs.declared.parts.Parts.{Parts}
use Rattle.plan_base.specs.declared.claim.Placement.{Placement}
use Rattle.plan_base.specs.Starts.{IsPossibleStart, ShareSlice}
use Rattle.plan_base.specs.Bound.{IsStartList, weight, surplus, IsBest}
use Rattle.plan_base.specs.Tables.{IsStartOn, slice_after, horizon_end}

-- possible starts of telescope t that end by slice k, no two of which share a slice; a request may stand twice
pub record IsListUntil (s : Parts) (t k : ℕ) (starts : List Placement) : Type 0 where
  pub possible : All (IsPossibleStart s) starts
  pub same_telescope : All (λ p. p.telescope.0 ≡ t) starts
  pub ended : All (λ p. slice_after s p ≤ k) starts
  pub disjoint : AllPairs (λ a b. ¬ (ShareSlice s a b)) starts

-- b is the greatest surplus of a list of starts of telescope t that end by slice k
pub record IsBestUntil (s : Parts) (prices : List ℤ) (t k : ℕ) (b : ℤ) : Type 0 where
  pub reached : (starts : List Placement) × IsListUntil s t k starts × (surplus s prices starts ≡ b)
  pub bound : (starts : List Placement) → IsListUntil s t k starts → surplus s prices starts ≤ℤ b

-- one of the starts is of request r
abbrev pub HasRequest : ℕ → List Placement → Type 0
HasRequest r starts = Any (λ p. p.request.0 ≡ r) starts

-- a list of starts of telescope t, one of which is of request r
pub record IsListThrough (s : Parts) (t r : ℕ) (starts : List Placement) : Type 0 where
  pub list : IsStartList s t s.first.0 starts
  pub has : HasRequest r starts

-- b is the greatest surplus of a list of starts of telescope t, one of which is of request r
pub record IsThrough (s : Parts) (prices : List ℤ) (t r : ℕ) (b : ℤ) : Type 0 where
  pub reached : (starts : List Placement) × IsListThrough s t r starts × (surplus s prices starts ≡ b)
  pub bound : (starts : List Placement) → IsListThrough s t r starts → surplus s prices starts ≤ℤ b

-- each number is the greatest of the one before it and of what each start of telescope t that ends there gives, and the first is 0
pub record IsTableUntil (s : Parts) (prices : List ℤ) (t : ℕ) (table : ℕ → ℤ) : Type 0 where
  pub at_first : table s.first.0 ≡ pos 0
  pub rising : (k : ℕ) → s.first.0 ≤ k → k < horizon_end s → table k ≤ℤ table (suc k)
  pub above : (p : Placement) → IsStartOn s t p → (table p.slice.0 +ℤ weight s prices p) ≤ℤ table (slice_after s p)
  pub reached : (k : ℕ) → s.first.0 ≤ k → k < horizon_end s
      → (table (suc k) ≡ table k) ⊎ ((p : Placement) × IsStartOn s t p × (slice_after s p ≡ suc k) × (table (suc k) ≡ table p.slice.0 +ℤ weight s prices p))

-- b is what telescope t gives with the start p: the best until it, its weight, and the best after it
pub record IsGain (s : Parts) (prices : List ℤ) (t : ℕ) (p : Placement) (b : ℤ) : Type 0 where
  pub until : ℤ
  pub after : ℤ
  pub is_until : IsBestUntil s prices t p.slice.0 until
  pub is_after : IsBest s prices t (slice_after s p) after
  pub sum : b ≡ until +ℤ weight s prices p +ℤ after
