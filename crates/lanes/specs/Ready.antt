-- What lanes in step keep beyond what contracts see.
use Rattle.std.specs.Prelude.{◌≡◌, ℕ, ◌+◌, ◌*◌, ◌≤◌, ℤ, List, [], length, All}
use Rattle.interval_solver.specs.Limits.{most_at_once}
use Rattle.plan_base.specs.declared.parts.Parts.{Parts}
use Rattle.plan_base.specs.Requests.{listed}
use Rattle.plan_base.specs.Round.{greatest_value}
use Rattle.interval_solver.specs.Tables.{IsEntry}
use Rattle.interval_solver.specs.Lanes.{IsForLanes}
use Rattle.interval_solver.specs.Uses.{Started}
use Rattle.interval_solver.specs.Solving.{RowsOf, AreRowsOf}
use Rattle.repair.specs.Repairing.{Repairing}
use Rattle.lanes.specs.declared.lane_prices.LanePrices.{LanePrices}
use Rattle.lanes.specs.declared.bound_parts.BoundParts.{BoundParts}
use Rattle.lanes.specs.Rounds.{IsLane}
use Rattle.lanes.specs.BoundParts.{IsRoomFor}

-- a number for each of n lanes
abbrev pub IsAsLong : ℕ → List ℤ → Type 0
IsAsLong n numbers = length numbers ≡ n

-- there is room for a start at each slice of each telescope
pub record IsRoomy (s : Parts) (u : Started) : Type 0 where
  pub snapshot : u.snapshot ≡ s
  pub room : length s.telescopes * s.slices ≤ u.room

-- nothing is started, and there is room for a start at each slice of each telescope
pub record IsEmpty (s : Parts) (u : Started) : Type 0 where
  pub roomy : IsRoomy s u
  pub none : u.starts ≡ []

-- the same room, with nothing started
abbrev pub IsCleared : Started → Started → Type 0
IsCleared old new = new ≡ record { snapshot = old.snapshot; starts = []; room = old.room }

-- numbers for n lanes: a price for each request, an entry for each slice and one more, and a best for each telescope
pub record AreTables (s : Parts) (n : ℕ) (prices table bests : List (List ℤ)) : Type 0 where
  pub prices_count : length prices ≡ length (listed s)
  pub prices_lanes : All (IsAsLong n) prices
  pub entries_count : length table ≡ s.slices + 1
  pub entries : All (IsForLanes n IsEntry) table
  pub bests_count : length bests ≡ length s.telescopes
  pub bests_lanes : All (IsAsLong n) bests

-- what n lanes of a snapshot need for their rounds
pub record IsReady (s : Parts) (n : ℕ) (rs : List RowsOf) (ls : List LanePrices) (us : List Started) (x : BoundParts) (r : Repairing) (vmax : ℕ) : Type 0 where
  pub some : 1 ≤ n
  pub few : n ≤ most_at_once
  pub rows : AreRowsOf s (length s.telescopes) rs
  pub lanes_count : length ls ≡ n
  pub lanes : All (IsLane s) ls
  pub uses_count : length us ≡ n
  pub uses : All (IsRoomy s) us
  pub bound_parts : IsRoomFor s x
  pub repairing : r.snapshot ≡ s
  pub greatest : vmax ≡ greatest_value s
