-- Tables of numbers, one a slice, by which the best of a telescope is found.
use Rattle.std.specs.Prelude.{◌≡◌, ℕ, suc, ◌+◌, ◌-◌, ◌≤◌, ◌<◌, ◌⊎◌, ℤ, pos, ◌+ℤ◌, ◌≤ℤ◌, List, [], length, slice_index_or, Contains}
use Rattle.plan_base.specs.declared.parts.Parts.{Parts}
use Rattle.plan_base.specs.declared.claim.Placement.{Placement}
use Rattle.plan_base.specs.Starts.{IsPossibleStart, size_of}
use Rattle.plan_base.specs.Bound.{weight}

-- a possible start of telescope t
pub record IsStartOn (s : Parts) (t : ℕ) (p : Placement) : Type 0 where
  pub possible : IsPossibleStart s p
  pub same_telescope : p.telescope.0 ≡ t

-- the slice after the last of a start
abbrev pub slice_after : Parts → Placement → ℕ
slice_after s p = p.slice.0 + size_of s p.request.0

-- the slice after the horizon
abbrev pub horizon_end : Parts → ℕ
horizon_end s = s.first.0 + s.slices

-- each number is the greatest of the next one and of what each start of telescope t at its slice gives, and the last is 0
pub record IsTable (s : Parts) (prices : List ℤ) (t : ℕ) (table : ℕ → ℤ) : Type 0 where
  pub at_end : table (horizon_end s) ≡ pos 0
  pub falling : (k : ℕ) → s.first.0 ≤ k → k < horizon_end s → table (suc k) ≤ℤ table k
  pub above : (p : Placement) → IsStartOn s t p → (weight s prices p +ℤ table (slice_after s p)) ≤ℤ table p.slice.0
  pub reached : (k : ℕ) → s.first.0 ≤ k → k < horizon_end s
      → (table k ≡ table (suc k)) ⊎ ((p : Placement) × IsStartOn s t p × (p.slice.0 ≡ k) × (table k ≡ weight s prices p +ℤ table (slice_after s p)))

-- the number from row k on
abbrev pub entry : List ℤ → ℕ → ℤ
entry table k = slice_index_or table k (pos 0)

-- what stands in row k
abbrev pub row : {X : Type 0} → List (List X) → ℕ → List X
row rows k = slice_index_or rows k []

-- what a start gives that weighs so much, where the table has what follows it from the row after its last slice on
abbrev pub gain_from : {X : Type 0} → (X → ℤ) → (X → ℕ) → List ℤ → X → ℤ
gain_from weighs ends table x = weighs x +ℤ entry table (ends x)

-- entry k is the greatest of the next one and of what the starts in row k give
pub record IsGreatestOf {X : Type 0} (weighs : X → ℤ) (ends : X → ℕ) (rows : List (List X)) (table : List ℤ) (k : ℕ) : Type 0 where
  pub falling : entry table (k + 1) ≤ℤ entry table k
  pub above : (x : X) → Contains (row rows k) x → gain_from weighs ends table x ≤ℤ entry table k
  pub reached : (entry table k ≡ entry table (k + 1)) ⊎ ((x : X) × Contains (row rows k) x × (entry table k ≡ gain_from weighs ends table x))

-- 0 at the end, and before it the greatest at each row
pub record IsRowTable {X : Type 0} (weighs : X → ℤ) (ends : X → ℕ) (rows : List (List X)) (table : List ℤ) : Type 0 where
  pub at_end : entry table (length rows) ≡ pos 0
  pub each : (k : ℕ) → k < length rows → IsGreatestOf weighs ends rows table k

-- x weighs what the start p does at the prices, and ends where it does
pub record IsRowStart {X : Type 0} (s : Parts) (prices : List ℤ) (weighs : X → ℤ) (ends : X → ℕ) (p : Placement) (x : X) : Type 0 where
  pub weighs_so : weighs x ≡ weight s prices p
  pub ends_so : s.first.0 + ends x ≡ slice_after s p

-- row i has the possible starts of telescope t at slice i of the horizon
pub record AreStartRows {X : Type 0} (s : Parts) (prices : List ℤ) (t : ℕ) (weighs : X → ℤ) (ends : X → ℕ) (rows : List (List X)) : Type 0 where
  pub count : length rows ≡ s.slices
  pub possible : (i : ℕ) (x : X) → Contains (row rows i) x
      → (p : Placement) × IsStartOn s t p × (p.slice.0 ≡ s.first.0 + i) × IsRowStart s prices weighs ends p x
  pub complete : (p : Placement) → IsStartOn s t p → (x : X) × Contains (row rows (p.slice.0 - s.first.0)) x × IsRowStart s prices weighs ends p x
