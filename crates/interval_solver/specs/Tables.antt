-- Tables of numbers, one a slice, over rows of starts at prices.
use Rattle.std.specs.Prelude.{◌≡◌, ℕ, ◌+◌, ◌*◌, ◌≤◌, ◌<◌, ℤ, pos, neg_ℤ, ◌-ℤ◌, ◌≤ℤ◌}
use Rattle.std.specs.Prelude.{List, length, slice_index_or, Contains}
use Rattle.plan_base.specs.Limits.{most_price, most_slices, most_value}
use Rattle.plan_base.specs.Tables.{entry, row, gain_from, IsGreatestOf, IsRowTable}
use Rattle.interval_solver.specs.declared.start.Start.{Start}

-- what a start may weigh
abbrev pub IsWeight : ℤ → Type 0
IsWeight w = (neg_ℤ (pos most_price) ≤ℤ w) × (w ≤ℤ pos (most_price + most_value))

-- what a table of at most 1,440 slices may hold
abbrev pub IsEntry : ℤ → Type 0
IsEntry b = (pos 0 ≤ℤ b) × (b ≤ℤ pos (most_slices * (most_price + most_value)))

-- what a start is worth beyond its request's price
abbrev pub start_weight : List ℤ → Start → ℤ
start_weight prices x = pos x.worth -ℤ slice_index_or prices x.place (pos 0)

-- what a start gives, where the table has what follows it
abbrev pub gain : List ℤ → List ℤ → Start → ℤ
gain prices table x = gain_from (start_weight prices) (λ y. y.after) table x

-- a start at slice k ends after it and within n slices, and is worth so much; its request is one of m
pub record IsFitting (n m k : ℕ) (x : Start) : Type 0 where
  pub worth : x.worth ≤ most_value
  pub place : x.place < m
  pub after : k < x.after
  pub within : x.after ≤ n

-- the starts of each row are fitting, where there are m requests
abbrev pub DoRowsFit : ℕ → List (List Start) → Type 0
DoRowsFit m rows = (k : ℕ) (x : Start) → Contains (row rows k) x → IsFitting (length rows) m k x

-- entry k is the greatest of the next one and of what the starts at slice k give
abbrev pub IsGreatestAt : List (List Start) → List ℤ → List ℤ → ℕ → Type 0
IsGreatestAt rows prices table k = IsGreatestOf (start_weight prices) (λ y. y.after) rows table k

-- 0 at the end, and before it the greatest at each slice
abbrev pub IsRecursion : List (List Start) → List ℤ → List ℤ → Type 0
IsRecursion rows prices table = IsRowTable (start_weight prices) (λ y. y.after) rows table

-- the entries from k up to j are the same
abbrev pub IsFlat : List ℤ → ℕ → ℕ → Type 0
IsFlat table k j = (i : ℕ) → k ≤ i → i < j → entry table i ≡ entry table (i + 1)

-- x is the first start in a row that gives the number b
pub record IsFirstTight (prices table : List ℤ) (b : ℤ) (xs : List Start) (x : Start) : Type 0 where
  pub place : ℕ
  pub within : place < length xs
  pub at : slice_index_or xs place x ≡ x
  pub gives : gain prices table x ≡ b
  pub first : (k : ℕ) → k < place → ¬ (gain prices table (slice_index_or xs k x) ≡ b)
