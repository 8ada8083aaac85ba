-- Lanes whose rounds a worker makes in step, and what they and the lanes before them have found.
use Rattle.std.specs.Prelude.{◌≡◌, ℕ, ◌≤◌, ◌<◌, ◌⊎◌, true, List, [], length, map, slice_index_or, All, AllPairs, Any, Contains}
use Rattle.plan_base.specs.declared.parts.Parts.{Parts}
use Rattle.plan_base.specs.declared.claim.Settings.{Settings}
use Rattle.board.specs.declared.seat.SeatView.{SeatView}
use Rattle.lanes.specs.declared.lane_prices.LanePrices.{LanePrices}
use Rattle.lanes.specs.declared.worker.LaneFound.{LaneFound}
use Rattle.lanes.specs.Found.{FoundSeen, IsFound}
use Rattle.lanes.specs.Searched.{LaneRounds, IsMade, IsBoundGiven, IsValueGiven, IsMetBy, IsMetFor, IsLaneDone}

-- round k of lane j is one of those that this lane has made
abbrev pub IsMadeIn : LanePrices → ℕ → ℕ → Type 0
IsMadeIn x j k = (x.lane ≡ j) × (k < x.made)

-- round k of lane j was made, in a lane before or in one of these
abbrev pub IsMadeSoFar : List LaneRounds → List LanePrices → ℕ → ℕ → Type 0
IsMadeSoFar before lanes j k = IsMade before j k ⊎ Any (λ x. IsMadeIn x j k) lanes

-- the numbers of the lanes
abbrev pub lanes_of : List LanePrices → List ℕ
lanes_of lanes = map (λ x. x.lane) lanes

-- a lane that the seat claimed, later than the lanes before
pub record IsTakenLane (settings : Settings) (v : SeatView) (before : List LaneRounds) (x : LanePrices) : Type 0 where
  pub known : x.lane < settings.lanes
  pub rounds : x.made ≤ settings.rounds
  pub claimed : Contains v.claims x.lane
  pub later : (i k : ℕ) → IsMade before i k → i < x.lane

-- what a lane in step has found; where it makes no further round, bound and value have met
pub record IsFoundInStep (s : Parts) (settings : Settings) (opening : ℕ) (v : SeatView) (made : ℕ → ℕ → Type 0) (x : LanePrices) (y : LaneFound) : Type 0 where
  pub found : IsFound s settings.workers (IsMadeIn x) 0 [] y.found
  pub stopped : y.stopped ≡ true → IsMetFor v × (settings.workers ≡ 1 → IsMetBy s made opening x.lane)

-- these are the lanes in step, each with what it has found; f is what the lanes before them have, and the seat claimed both
pub record IsInStep (s : Parts) (settings : Settings) (opening : ℕ) (v : SeatView) (f : FoundSeen) (lanes : List LanePrices)
    (founds : List LaneFound) : Type 0 where
  pub before : List LaneRounds
  pub within : (j k : ℕ) → IsMade before j k → (j < settings.lanes) × (k < settings.rounds)
  pub claimed : (j k : ℕ) → IsMade before j k → Contains v.claims j
  pub found : IsFound s settings.workers (IsMade before) opening [] f
  pub bound_given : IsBoundGiven s (IsMadeSoFar before lanes) v.least_given
  pub value_given : IsValueGiven s (IsMadeSoFar before lanes) opening v.greatest_given
  pub count : length founds ≡ length lanes
  pub taken : All (IsTakenLane settings v before) lanes
  pub each : (l : ℕ) (d : LanePrices) (e : LaneFound) → l < length lanes
      → IsFoundInStep s settings opening v (IsMadeSoFar before lanes) (slice_index_or lanes l d) (slice_index_or founds l e)
  pub rising : AllPairs (λ a b. a < b) (lanes_of lanes)
  pub done : (j : ℕ) → Contains v.claims j → j < settings.lanes → IsLaneDone s settings (IsMade before) opening v j ⊎ Contains (lanes_of lanes) j
