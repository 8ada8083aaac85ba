-- What a round of a lane gives, and what lanes that are made in step keep.
use Rattle.std.specs.Prelude.{◌≡◌, ℕ, ◌≤◌, ◌<◌, ℤ, pos, List, length, map, slice_index_or, slice_set, All}
use Rattle.plan_base.specs.declared.parts.Parts.{Parts}
use Rattle.plan_base.specs.declared.claim.Placement.{Placement}
use Rattle.plan_base.specs.Limits.{most_quota_price, most_lanes, most_rounds}
use Rattle.plan_base.specs.Sums.{AreParts}
use Rattle.plan_base.specs.Requests.{listed}
use Rattle.plan_base.specs.Starts.{value_of_plan}
use Rattle.plan_base.specs.Feasible.{IsFeasible}
use Rattle.plan_base.specs.Bound.{IsBest, IsBound}
use Rattle.plan_base.specs.Canonical.{IsCanonicalStarts}
use Rattle.plan_base.specs.Round.{IsRoundPrices}
use Rattle.plan_base.specs.Repaired.{IsRepaired}
use Rattle.plan_base.specs.Verdict.{IsPriceInRange}
use Rattle.interval_solver.specs.Lanes.{lane}
use Rattle.interval_solver.specs.Uses.{Started}
use Rattle.lanes.specs.declared.lane_prices.LanePrices.{LanePrices}

-- a lane of a snapshot, and how many rounds it has made
pub record LaneSeen : Type 0 where
  pub snapshot : Parts
  pub lane : ℕ
  pub made : ℕ

-- the prices of the lane's next round, one for each request and each quota, each in its range
pub record IsLane (s : Parts) (l : LanePrices) : Type 0 where
  pub lane : l.lane < most_lanes
  pub made : l.made ≤ most_rounds
  pub is_round : IsRoundPrices s l.lane l.made l.prices.0 l.quota_prices.0
  pub count : length l.prices.0 ≡ length (listed s)
  pub quota_count : length l.quota_prices.0 ≡ length s.quotas
  pub range : All IsPriceInRange l.prices.0
  pub quota_range : All (λ u. u ≤ most_quota_price) l.quota_prices.0

-- all telescopes were solved at these prices: what they start, and the best of each
pub record IsSolved (s : Parts) (prices : List ℤ) (starts : List Placement) (bests : List ℤ) : Type 0 where
  pub canonical : IsCanonicalStarts s prices starts
  pub best : AreParts (length s.telescopes) (λ t. IsBest s prices t s.first.0) bests

-- lanes in step: what telescopes start at the prices of each, the bests of each telescope, and the plan of the last answer
pub record Stepping : Type 0 where
  pub snapshot : Parts
  pub lanes : List LanePrices
  pub uses : List Started
  pub bests : List (List ℤ)
  pub plan : List Placement

-- lane l was solved at its prices
abbrev pub IsSolvedAt : Stepping → ℕ → Type 0
IsSolvedAt x l = (a : LanePrices) (u : Started) → IsSolved x.snapshot (slice_index_or x.lanes l a).prices.0 (slice_index_or x.uses l u).starts (lane l x.bests)

-- place l has a lane of which so many rounds were made, and the other places are as before
pub record IsLaneNow (s : Parts) (l lane made : ℕ) (old new : List LanePrices) : Type 0 where
  pub prices : LanePrices
  pub is_lane : IsLane s prices
  pub same_lane : prices.lane ≡ lane
  pub rounds : prices.made ≡ made
  pub set : new ≡ slice_set old l prices

-- the bound of a lane's prices, which no feasible plan passes, and the plan that is repaired from them, with its value
pub record IsAnswer (s : Parts) (l : LanePrices) (b v : ℕ) (plan : List Placement) : Type 0 where
  pub is_lane : IsLane s l
  pub bound : IsBound s l.prices.0 l.quota_prices.0 (pos b)
  pub repaired : IsRepaired s l.prices.0 plan
  pub worth : value_of_plan s plan ≡ v
  pub feasible : IsFeasible s plan
  pub above : (other : List Placement) → IsFeasible s other → value_of_plan s other ≤ b

-- the one lane of lanes in step
abbrev pub lane_seen : Stepping → LaneSeen
lane_seen x = record {
  snapshot = x.snapshot;
  lane = slice_index_or (map (λ l. l.lane) x.lanes) 0 0;
  made = slice_index_or (map (λ l. l.made) x.lanes) 0 0;
}

-- the bound of the prices of a lane's round, and the value of the plan that is repaired from them
pub record IsRoundAnswer (s : Parts) (lane round bound value : ℕ) : Type 0 where
  pub prices : List ℤ
  pub quota_prices : List ℕ
  pub is_round : IsRoundPrices s lane round prices quota_prices
  pub is_bound : IsBound s prices quota_prices (pos bound)
  pub plan : List Placement
  pub repaired : IsRepaired s prices plan
  pub worth : value_of_plan s plan ≡ value
