-- What a worker keeps.
use Rattle.std.specs.Prelude.{◌≡◌, ◌≢◌, ℕ, ◌+◌, ◌≤◌, ◌<◌, ◌⊎◌, true, List, [], ◌∷◌, length, map, take, slice_index_or, All, Contains, HoldsAt}
use Rattle.interval_solver.specs.Limits.{most_at_once}
use Rattle.plan_base.specs.Limits.{most_lanes, most_rounds}
use Rattle.plan_base.specs.declared.claim.Settings.{Settings}
use Rattle.board.specs.declared.seat.SeatView.{SeatView}
use Rattle.plan_base.specs.Snapshot.{IsOrderly}
use Rattle.board.specs.declared.board.Board.{Board}
use Rattle.board.specs.Seats.{view, IsSeatOf}
use Rattle.lanes.specs.declared.worker.Worker.{Worker}
use Rattle.lanes.specs.declared.worker.LaneFound.{LaneFound}
use Rattle.lanes.specs.declared.lane_prices.LanePrices.{LanePrices}
use Rattle.lanes.specs.Rounds.{IsSolvedAt, IsLaneNow}
use Rattle.lanes.specs.Found.{FoundSeen, ArePrices}
use Rattle.lanes.specs.Searched.{IsSearched, IsEnded}
use Rattle.lanes.specs.InStep.{IsInStep}

-- a worker of a snapshot has room for L lanes, of which it takes its share, and a seat of its own
pub record IsEquipped (L : ℕ) (w : Worker L) : Type 0 where
  pub orderly : IsOrderly w.steps.snapshot
  pub rounds : w.settings.rounds ≤ most_rounds
  pub lanes : w.settings.lanes ≤ most_lanes
  pub prices_count : length w.steps.lanes ≡ L
  pub founds_count : length w.lanes.items ≡ L
  pub some : 1 ≤ w.share
  pub share : w.share ≤ L
  pub room : L ≤ most_at_once
  pub taken : w.taken ≤ w.share
  pub prices : All (λ y. ArePrices w.steps.snapshot y.found.prices y.found.quota_prices) w.lanes.items
  pub seats : (view w.seat).seats ≡ 1
  pub no_tickets : (view w.seat).tickets ≡ 0

-- what a worker keeps from call to call
pub record IsSameWorker (L : ℕ) (old new : Worker L) : Type 0 where
  pub settings : new.settings ≡ old.settings
  pub opening : new.opening ≡ old.opening
  pub snapshot : new.steps.snapshot ≡ old.steps.snapshot
  pub share : new.share ≡ old.share

-- the lanes in step, the first that were taken, with what they and those before them have found
pub record IsWorking (L : ℕ) (w : Worker L) : Type 0 where
  pub equipped : IsEquipped L w
  pub in_step : IsInStep w.steps.snapshot w.settings w.opening (view w.seat) w.found (take w.taken w.steps.lanes) (take w.taken w.lanes.items)

-- each lane in step has made so many rounds, or makes no further one
abbrev pub HasMade : (L : ℕ) → Worker L → ℕ → Type 0
HasMade L w rounds = (l : ℕ) (d : LanePrices) (e : LaneFound) → l < w.taken
    → ((slice_index_or w.lanes.items l e).stopped ≡ true) ⊎ ((slice_index_or w.steps.lanes l d).made ≡ rounds)

-- no lane in step has made a round
abbrev pub AreFresh : (L : ℕ) → Worker L → Type 0
AreFresh L w = (l : ℕ) (d : LanePrices) → l < w.taken → (slice_index_or w.steps.lanes l d).made ≡ 0

-- the first of the lanes in step have made one round more than the others, but for those that make no further one
pub record IsPartMade (L : ℕ) (w : Worker L) (round first : ℕ) : Type 0 where
  pub done : (l : ℕ) (d : LanePrices) (e : LaneFound) → l < first → l < w.taken
      → ((slice_index_or w.lanes.items l e).stopped ≡ true) ⊎ ((slice_index_or w.steps.lanes l d).made ≡ round + 1)
  pub left : (l : ℕ) (d : LanePrices) (e : LaneFound) → first ≤ l → l < w.taken
      → ((slice_index_or w.lanes.items l e).stopped ≡ true) ⊎ ((slice_index_or w.steps.lanes l d).made ≡ round)

-- a lane in step that makes no further round makes none later
abbrev pub AreStoppedStill : List LaneFound → List LaneFound → Type 0
AreStoppedStill old new = (l : ℕ) (e : LaneFound) → (slice_index_or old l e).stopped ≡ true → (slice_index_or new l e).stopped ≡ true

-- some lanes in step may have been stopped, and all else is as before
pub record IsStopped (L : ℕ) (old new : Worker L) : Type 0 where
  pub settings : new.settings ≡ old.settings
  pub opening : new.opening ≡ old.opening
  pub seat : new.seat ≡ old.seat
  pub steps : new.steps ≡ old.steps
  pub share : new.share ≡ old.share
  pub taken : new.taken ≡ old.taken
  pub stopped : AreStoppedStill old.lanes.items new.lanes.items

-- a number was claimed that is no lane
abbrev pub IsNoneLeft : Settings → SeatView → Type 0
IsNoneLeft settings v = (n : ℕ) × (settings.lanes ≤ n) × Contains v.claims n

-- lane l in step has made its next round, and all else goes on
pub record IsNextMade (L : ℕ) (l : ℕ) (old new : Worker L) : Type 0 where
  pub same : IsSameWorker L old new
  pub taken : new.taken ≡ old.taken
  pub claims : (view new.seat).claims ≡ (view old.seat).claims
  pub lanes : HoldsAt (λ x. IsLaneNow old.steps.snapshot l x.lane (x.made + 1) old.steps.lanes new.steps.lanes) old.steps.lanes l
  pub stopped : AreStoppedStill old.lanes.items new.lanes.items
  pub solved : (k : ℕ) → k ≢ l → IsSolvedAt old.steps k → IsSolvedAt new.steps k

-- the seat has looked at bound and value, and knows no more than before of else
pub record IsLook (v w : SeatView) : Type 0 where
  pub least : w.least_given ≡ v.least_given
  pub greatest : w.greatest_given ≡ v.greatest_given
  pub claims : w.claims ≡ v.claims
  pub seats : w.seats ≡ v.seats
  pub tickets : w.tickets ≡ v.tickets
  pub lower : w.lowest_seen ≤ v.lowest_seen
  pub greater : v.greatest_seen ≤ w.greatest_seen

-- what the worker's seat claimed was searched, and there is no more to be searched
pub record IsDone (L : ℕ) (w : Worker L) : Type 0 where
  pub searched : IsSearched w.steps.snapshot w.settings w.opening [] (view w.seat) w.found
  pub ended : IsEnded w.settings (view w.seat)
  pub seats : (view w.seat).seats ≡ 1
  pub no_tickets : (view w.seat).tickets ≡ 0

-- the worker has a seat of this board, and no lane yet
pub record IsReadyToWork (L : ℕ) (board : Board) (w : Worker L) : Type 0 where
  pub seat : IsSeatOf board w.seat
  pub working : IsWorking L w
  pub none : w.taken ≡ 0
  pub claims : (view w.seat).claims ≡ []

-- the worker has taken lanes until no more is to be searched
pub record HasDoneWork (L : ℕ) (board : Board) (old new : Worker L) : Type 0 where
  pub seat : IsSeatOf board new.seat
  pub same : IsSameWorker L old new
  pub done : IsDone L new

-- a bound and a value that were found up to lane l in step have met
pub record HasMetAt (f : FoundSeen) (founds : List LaneFound) (l : ℕ) : Type 0 where
  pub bound : ℕ
  pub value : ℕ
  pub found_bound : Contains (f.bound ∷ map (λ y. y.found.bound) (take (l + 1) founds)) bound
  pub found_value : Contains (f.value ∷ map (λ y. y.found.value) (take (l + 1) founds)) value
  pub met : bound ≤ value
