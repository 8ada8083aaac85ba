-- Tables that are filled from their ends.
use Rattle.std.specs.Prelude.{◌≡◌, ℕ, ◌+◌, ◌-◌, ◌*◌, ◌<◌, ◌≤◌, ◌⊎◌, ℤ, pos, ◌≤ℤ◌, List, length, All, Contains}
use Rattle.interval_solver.specs.declared.start.Start.{Start}
use Rattle.plan_base.specs.Tables.{row, entry}
use Rattle.interval_solver.specs.Tables.{IsEntry, gain, IsGreatestAt}
use Rattle.interval_solver.specs.Lanes.{number_in, lane, IsForLanes}

-- the greatest of `least` and of what g gives of the starts that are P
pub record IsMostAmong (P : Start → Type 0) (g : Start → ℤ) (least most : ℤ) : Type 0 where
  pub above : least ≤ℤ most
  pub each : (x : Start) → P x → g x ≤ℤ most
  pub reached : (most ≡ least) ⊎ ((x : Start) × P x × (most ≡ g x))

-- the same in each of n lanes
abbrev pub IsMostInLanes : ℕ → (Start → Type 0) → List (List ℤ) → List (List ℤ) → List ℤ → List ℤ → Type 0
IsMostInLanes n P prices table least most = (l : ℕ) → l < n → IsMostAmong P (gain (lane l prices) (lane l table)) (number_in l least) (number_in l most)

-- the table from slice k on
pub record IsFilledFrom (rows : List (List Start)) (prices table : List ℤ) (k : ℕ) : Type 0 where
  pub low : (j : ℕ) → k ≤ j → j ≤ length rows → pos 0 ≤ℤ entry table j
  pub high : (j : ℕ) → k ≤ j → j ≤ length rows → entry table j ≤ℤ pos ((length rows - j) * 1000288000000)
  pub at_end : entry table (length rows) ≡ pos 0
  pub each : (j : ℕ) → k ≤ j → j < length rows → IsGreatestAt rows prices table j

-- the tables of n lanes from slice k on
pub record AreFilledFrom (n : ℕ) (rows : List (List Start)) (prices table : List (List ℤ)) (k : ℕ) : Type 0 where
  pub count : length table ≡ length rows + 1
  pub entries : All (IsForLanes n IsEntry) table
  pub filled : (l : ℕ) → l < n → IsFilledFrom rows (lane l prices) (lane l table) k

-- b is 0 or what a start gives, and each start is single or gives no more
pub record IsRestBest (starts singles : List Start) (g : Start → ℤ) (b : ℤ) : Type 0 where
  pub reached : (b ≡ pos 0) ⊎ ((x : Start) × Contains starts x × (b ≡ g x))
  pub above : (x : Start) → Contains starts x → Contains singles x ⊎ (g x ≤ℤ b)

-- the same in each of n lanes, at slice k
abbrev pub AreRestBest : ℕ → List (List Start) → List Start → List (List ℤ) → List (List ℤ) → ℕ → List ℤ → Type 0
AreRestBest n rows singles prices table k numbers = (l : ℕ) → l < n
    → IsRestBest (row rows k) singles (gain (lane l prices) (lane l table)) (number_in l numbers)
