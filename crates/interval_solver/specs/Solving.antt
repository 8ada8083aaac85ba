-- What contracts see of the rows of a telescope and of a solver, and what one call in step does in each lane.
use Rattle.std.specs.Prelude.{◌≡◌, ℕ, ◌+◌, ◌≤◌, ◌<◌, ℤ, List, ◌++◌, length, slice_index_or, All}
use Rattle.plan_base.specs.declared.parts.Parts.{Parts}
use Rattle.plan_base.specs.declared.claim.Placement.{Placement}
use Rattle.plan_base.specs.Requests.{listed}
use Rattle.plan_base.specs.Bound.{IsBest}
use Rattle.plan_base.specs.Canonical.{IsCanonicalUse}
use Rattle.interval_solver.specs.Tables.{IsEntry}
use Rattle.interval_solver.specs.Lanes.{number_in, lane, IsForLanes}
use Rattle.interval_solver.specs.Uses.{Started}

-- a telescope of a snapshot
pub record RowsOf : Type 0 where
  pub snapshot : Parts
  pub telescope : ℕ

-- the rows of the first n telescopes of a snapshot
pub record AreRowsOf (s : Parts) (n : ℕ) (rows : List RowsOf) : Type 0 where
  pub count : length rows ≡ n
  pub snapshots : All (λ r. r.snapshot ≡ s) rows
  pub telescopes : (t : ℕ) (d : RowsOf) → t < n → (slice_index_or rows t d).telescope ≡ t

-- a telescope of a snapshot, and what it starts at the last prices
pub record Solving : Type 0 where
  pub snapshot : Parts
  pub telescope : ℕ
  pub chosen : List Placement

-- there is a price for each request, an entry for each slice and one after them, and room for a start at each slice
pub record IsReady (r : RowsOf) (prices table : List (List ℤ)) (u : Started) : Type 0 where
  pub prices_count : length prices ≡ length (listed r.snapshot)
  pub entries_count : length table ≡ r.snapshot.slices + 1
  pub entries : All (IsForLanes 1 IsEntry) table
  pub snapshot : u.snapshot ≡ r.snapshot
  pub room : r.snapshot.slices ≤ u.room

-- uses of the snapshot with room for one start more at each slice
pub record HasRoom (s : Parts) (u : Started) : Type 0 where
  pub snapshot : u.snapshot ≡ s
  pub room : length u.starts + s.slices ≤ u.room

-- what telescope t starts at the prices was added to the uses
pub record AreUsesMore (s : Parts) (prices : List ℤ) (t : ℕ) (old new : Started) : Type 0 where
  pub starts : List Placement
  pub canonical : IsCanonicalUse s prices t starts
  pub added : new.starts ≡ old.starts ++ starts
  pub few : length starts ≤ s.slices
  pub snapshot : new.snapshot ≡ s
  pub room : new.room ≡ old.room

-- what telescope t starts at the prices of each of n lanes was added to the lane's uses
pub record AreAllUsesMore (s : Parts) (t n : ℕ) (prices : List (List ℤ)) (old new : List Started) : Type 0 where
  pub count : length new ≡ length old
  pub each : (l : ℕ) (d : Started) → l < n → AreUsesMore s (lane l prices) t (slice_index_or old l d) (slice_index_or new l d)

-- each of n lanes has telescope t's best at its prices, and what the telescope starts there was added to its uses
pub record AreLanesSolved (s : Parts) (t n : ℕ) (prices : List (List ℤ)) (old new : List Started) (bests : List ℤ) : Type 0 where
  pub best : (l : ℕ) → l < n → IsBest s (lane l prices) t s.first.0 (number_in l bests)
  pub uses : AreAllUsesMore s t n prices old new
