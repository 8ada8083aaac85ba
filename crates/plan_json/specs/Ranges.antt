-- The ranges in which members are read.
use Rattle.std.specs.Prelude.{ℕ, ◌≤◌, List, length}
use Rattle.plan_base.specs.Limits.{most_name}

-- the number lies in the range
pub record IsBetween (least most n : ℕ) : Type 0 where
  pub low : least ≤ n
  pub high : n ≤ most

-- the text has 1 to 128 bytes
abbrev pub IsText : List ℕ → Type 0
IsText s = IsBetween 1 most_name (length s)
