-- Blocks of four slices, in which one start stands for four.
use Rattle.std.specs.Prelude.{◌≡◌, ℕ, ◌+◌, ◌*◌, ◌<◌, ◌≤◌, ◌⊎◌, List, length, Contains}
use Rattle.interval_solver.specs.declared.start.Start.{Start}
use Rattle.plan_base.specs.Tables.{row}

-- the same start so many slices later
abbrev pub later : ℕ → Start → Start
later j x = record { worth = x.worth; place = x.place; after = x.after + j }

-- x is what a whole start stands for at slice j of its block
abbrev pub IsWholeAt : List Start → ℕ → Start → Type 0
IsWholeAt wholes j x = (w : Start) × Contains wholes w × (x ≡ later j w)

-- each start of the rows is single or stands in a whole one, which ends no earlier than its block
pub record IsCover (rows wholes singles : List (List Start)) : Type 0 where
  pub count : length singles ≡ length rows
  pub blocks : 4 * length wholes ≤ length rows
  pub single : (k : ℕ) (x : Start) → Contains (row singles k) x → Contains (row rows k) x
  pub whole : (b j : ℕ) (x : Start) → j < 4 → IsWholeAt (row wholes b) j x → Contains (row rows (4 * b + j)) x
  pub apart : (b : ℕ) (w : Start) → Contains (row wholes b) w → 4 * b + 4 ≤ w.after
  pub complete : (b j : ℕ) (x : Start) → j < 4 → Contains (row rows (4 * b + j)) x → Contains (row singles (4 * b + j)) x ⊎ IsWholeAt (row wholes b) j x

-- the start and what it stands for are in the rows of block b, and it ends no earlier than the block
pub record IsWholeIn (rows : List (List Start)) (b : ℕ) (w : Start) : Type 0 where
  pub apart : 4 * b + 4 ≤ w.after
  pub all : (j : ℕ) → j < 4 → Contains (row rows (4 * b + j)) (later j w)

-- whole starts of the first n blocks
pub record AreWholes (rows wholes : List (List Start)) (n : ℕ) : Type 0 where
  pub count : length wholes ≡ n
  pub each : (b : ℕ) (w : Start) → Contains (row wholes b) w → IsWholeIn rows b w

-- the starts of a row that stand in no whole one at slice j of its block
pub record AreSinglesOf (starts wholes : List Start) (j : ℕ) (singles : List Start) : Type 0 where
  pub within : (x : Start) → Contains singles x → Contains starts x
  pub complete : (x : Start) → Contains starts x → Contains singles x ⊎ IsWholeAt wholes j x

-- the single starts of the first n slices
pub record AreSingles (rows wholes singles : List (List Start)) (n : ℕ) : Type 0 where
  pub count : length singles ≡ n
  pub each : (b j : ℕ) → j < 4 → 4 * b + j < n → AreSinglesOf (row rows (4 * b + j)) (row wholes b) j (row singles (4 * b + j))
