-- Tables of numbers, one a slice, over rows of starts.
use Rattle.std.specs.Prelude.{◌≡◌, ℕ, ◌+◌, ◌*◌, ◌≤◌, ◌<◌, ◌^◌, ◌⊎◌, ℤ, pos, neg_ℤ, ◌+ℤ◌, ◌≤ℤ◌, List, [], length, slice_index_or, Contains}
use Rattle.plan_base.specs.Limits.{most_price, most_slices, most_value}
use Rattle.plan_base.specs.Tables.{row, gain_from, IsGreatestOf, IsRowTable}
use Rattle.bound_checker.specs.declared.table.Start.{Start}

-- what a start may weigh
abbrev pub IsWeight : ℤ → Type 0
IsWeight w = (neg_ℤ (pos most_price) ≤ℤ w) × (w ≤ℤ pos (most_price + most_value))

-- what a table of at most 1,440 slices may hold
abbrev pub IsEntry : ℤ → Type 0
IsEntry b = (pos 0 ≤ℤ b) × (b ≤ℤ pos (most_slices * (most_price + most_value)))

-- what a start gives, where the table has what follows it
abbrev pub gain : List ℤ → Start → ℤ
gain table x = gain_from (λ y. y.weight) (λ y. y.after) table x

-- a start at slice k ends after it and within n slices
pub record IsFitting (n k : ℕ) (x : Start) : Type 0 where
  pub weight : IsWeight x.weight
  pub after : k < x.after
  pub within : x.after ≤ n

-- the starts of each row are fitting
abbrev pub DoRowsFit : List (List Start) → Type 0
DoRowsFit rows = (k : ℕ) (x : Start) → Contains (row rows k) x → IsFitting (length rows) k x

-- entry k is the greatest of the next one and of what the starts at slice k give
abbrev pub IsGreatestAt : List (List Start) → List ℤ → ℕ → Type 0
IsGreatestAt rows table k = IsGreatestOf (λ y. y.weight) (λ y. y.after) rows table k

-- 0 at the end, and before it the greatest at each slice
abbrev pub IsRecursion : List (List Start) → List ℤ → Type 0
IsRecursion rows table = IsRowTable (λ y. y.weight) (λ y. y.after) rows table
