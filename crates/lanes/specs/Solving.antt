-- What solving a snapshot does: workers that have yet to work, those that have, and what is put together of them.
use Rattle.std.specs.Prelude.{◌≡◌, ℕ, ◌+◌, ◌≤◌, ◌<◌, List, []}
use Rattle.plan_base.specs.Limits.{most_lanes, most_rounds, most_workers}
use Rattle.plan_base.specs.declared.parts.Parts.{Parts}
use Rattle.plan_base.specs.declared.claim.Placement.{Placement}
use Rattle.plan_base.specs.declared.claim.Settings.{Settings}
use Rattle.board.specs.declared.seat.SeatView.{SeatView}
use Rattle.board.specs.Views.{no_bound, all_seats}
use Rattle.board.specs.Seats.{view}
use Rattle.lanes.specs.declared.worker.Worker.{Worker}
use Rattle.lanes.specs.Found.{FoundSeen}
use Rattle.lanes.specs.Searched.{IsSearched, IsEnded}
use Rattle.lanes.specs.Working.{IsWorking, IsDone}

-- 1 to 8 lanes, 1 to 256 rounds and 1 to 8 workers
pub record IsInRange (settings : Settings) : Type 0 where
  pub some_lanes : 1 ≤ settings.lanes
  pub few_lanes : settings.lanes ≤ most_lanes
  pub some_rounds : 1 ≤ settings.rounds
  pub few_rounds : settings.rounds ≤ most_rounds
  pub some_workers : 1 ≤ settings.workers
  pub few_workers : settings.workers ≤ most_workers

-- the seat has given no bound, no value above the most, and claimed nothing
pub record IsUnused (most : ℕ) (v : SeatView) : Type 0 where
  pub bound : v.least_given ≡ no_bound
  pub value : v.greatest_given ≤ most
  pub claims : v.claims ≡ []

-- a worker for what was taken, that has yet to work
pub record IsNew (L : ℕ) (s : Parts) (asked : Settings) (value : ℕ) (w : Worker L) : Type 0 where
  pub working : IsWorking L w
  pub none : w.taken ≡ 0
  pub claims : (view w.seat).claims ≡ []
  pub snapshot : w.steps.snapshot ≡ s
  pub settings : w.settings ≡ asked
  pub opening : w.opening ≡ value

-- one that has worked
pub record HasWorked (L : ℕ) (s : Parts) (asked : Settings) (value : ℕ) (w : Worker L) : Type 0 where
  pub done : IsDone L w
  pub snapshot : w.steps.snapshot ≡ s
  pub settings : w.settings ≡ asked
  pub opening : w.opening ≡ value

-- what workers have found is put together, and so many of their seats are still to be joined
pub record IsGathering (s : Parts) (settings : Settings) (opening : ℕ) (greedy : List Placement) (v : SeatView) (f : FoundSeen) (left : ℕ) : Type 0 where
  pub parts : v.seats + v.tickets + left ≡ all_seats
  pub searched : IsSearched s settings opening greedy v f
  pub most : left ≤ settings.workers
  pub none_yet : left ≡ settings.workers → v.claims ≡ []
  pub ended : left < settings.workers → IsEnded settings v
