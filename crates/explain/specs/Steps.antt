-- Tables that are filled from the first slice on, step by step, and the charts of telescopes.
use Rattle.std.specs.Prelude.{◌≡◌, ◌≢◌, ℕ, ◌+◌, ◌-◌, ◌*◌, ◌≤◌, ◌<◌, ◌⊎◌, ℤ, pos, ◌+ℤ◌, ◌≤ℤ◌, List, length, Contains}
use Rattle.plan_base.specs.declared.parts.Parts.{Parts}
use Rattle.plan_base.specs.Limits.{most_price, most_value}
use Rattle.plan_base.specs.Bound.{IsBest}
use Rattle.plan_base.specs.Tables.{horizon_end, entry, row}
use Rattle.bound_checker.specs.declared.table.Start.{Start}
use Rattle.explain.specs.declared.chart.Chart.{Chart}
use Rattle.explain.specs.Through.{IsBestUntil}

-- a step from entry i to entry j that weighs w: to the next slice for nothing, or past a start in row i
abbrev pub IsStep : List (List Start) → ℕ → ℕ → ℤ → Type 0
IsStep rows i j w = ((j ≡ i + 1) × (w ≡ pos 0)) ⊎ ((x : Start) × Contains (row rows i) x × (j ≡ x.after) × (w ≡ x.weight))

-- a step from one of the first n entries
abbrev pub IsStepBefore : List (List Start) → ℕ → ℕ → ℕ → ℤ → Type 0
IsStepBefore rows n i j w = (i < n) × IsStep rows i j w

-- entry 0 is 0, and each entry is the greatest of 0 and of what the steps of P to it give
pub record IsForward (rows : List (List Start)) (P : ℕ → ℕ → ℤ → Type 0) (table : List ℤ) : Type 0 where
  pub count : length table ≡ length rows + 1
  pub first : entry table 0 ≡ pos 0
  pub low : (j : ℕ) → pos 0 ≤ℤ entry table j
  pub high : (j : ℕ) → entry table j ≤ℤ pos (j * (most_price + most_value))
  pub above : (i j : ℕ) (w : ℤ) → P i j w → (entry table i +ℤ w) ≤ℤ entry table j
  pub reached : (j : ℕ) → (entry table j ≡ pos 0) ⊎ ((i : ℕ) × (w : ℤ) × P i j w × (entry table j ≡ entry table i +ℤ w))

-- by the steps from the first n entries
abbrev pub IsFilledTo : List (List Start) → ℕ → List ℤ → Type 0
IsFilledTo rows n table = IsForward rows (IsStepBefore rows n) table

-- by all steps
abbrev pub IsFilled : List (List Start) → List ℤ → Type 0
IsFilled rows table = IsFilledTo rows (length rows) table

-- entry j is raised to what entry i and w give, where that is more
pub record IsRaised (old : List ℤ) (i j : ℕ) (w : ℤ) (new : List ℤ) : Type 0 where
  pub count : length new ≡ length old
  pub kept : (k : ℕ) → k ≢ j → entry new k ≡ entry old k
  pub rising : entry old j ≤ℤ entry new j
  pub above : (entry old i +ℤ w) ≤ℤ entry new j
  pub one : (entry new j ≡ entry old j) ⊎ (entry new j ≡ entry old i +ℤ w)

-- the bests of telescope t until each slice, and from each slice on
pub record IsChart (s : Parts) (prices : List ℤ) (t : ℕ) (chart : Chart) : Type 0 where
  pub until_count : length chart.until.items ≡ s.slices + 1
  pub after_count : length chart.after.items ≡ s.slices + 1
  pub until : (k : ℕ) → s.first.0 ≤ k → k ≤ horizon_end s → IsBestUntil s prices t k (entry chart.until.items (k - s.first.0))
  pub after : (k : ℕ) → s.first.0 ≤ k → k ≤ horizon_end s → IsBest s prices t k (entry chart.after.items (k - s.first.0))
