-- Which claims a search over lanes and rounds may publish.
use Rattle.std.specs.Prelude.{◌≡◌, ℕ, ◌≤◌, ◌<◌, ◌⊎◌, ℤ, pos, ◌≤ℤ◌, List}
use Rattle.plan_base.specs.declared.parts.Parts.{Parts}
use Rattle.plan_base.specs.declared.claim.Placement.{Placement}
use Rattle.plan_base.specs.declared.claim.Claim.{Claim}
use Rattle.plan_base.specs.declared.claim.Settings.{Settings}
use Rattle.plan_base.specs.Starts.{value_of_plan}
use Rattle.plan_base.specs.Bound.{IsBound}
use Rattle.plan_base.specs.Fill.{IsGreedy}
use Rattle.plan_base.specs.Round.{IsRoundPrices}
use Rattle.plan_base.specs.Repaired.{IsRepaired, IsListing}
use Rattle.plan_base.specs.Verdict.{IsCertified}

-- these are the prices of a lane and round of the settings
pub record IsRoundOf (s : Parts) (settings : Settings) (lane round : ℕ) (prices : List ℤ) (quota_prices : List ℕ) : Type 0 where
  pub lane_known : lane < settings.lanes
  pub round_known : round < settings.rounds
  pub is_round : IsRoundPrices s lane round prices quota_prices

-- lane and round j, k come before lane and round m, n
abbrev pub IsEarlierRound : ℕ → ℕ → ℕ → ℕ → Type 0
IsEarlierRound j k m n = (j < m) ⊎ ((j ≡ m) × (k < n))

-- the claim's bound is the least of all rounds, and its prices are those of a round that gives it; with one worker of the first
pub record IsLeastBound (s : Parts) (settings : Settings) (claim : Claim) : Type 0 where
  pub lane : ℕ
  pub round : ℕ
  pub gives : IsRoundOf s settings lane round claim.prices.0 claim.quota_prices.0
  pub least : (j k : ℕ) (prices : List ℤ) (quota_prices : List ℕ) (b : ℤ) → IsRoundOf s settings j k prices quota_prices → IsBound s prices quota_prices b
      → pos claim.bound ≤ℤ b
  pub first : settings.workers ≡ 1 → (j k : ℕ) (prices : List ℤ) (quota_prices : List ℕ) → IsEarlierRound j k lane round
      → IsRoundOf s settings j k prices quota_prices → ¬ (IsBound s prices quota_prices (pos claim.bound))

-- the plan repaired from the prices of this lane and round has this value
pub record IsRoundPlan (s : Parts) (settings : Settings) (lane round : ℕ) (value : ℕ) (plan : List Placement) : Type 0 where
  pub prices : List ℤ
  pub quota_prices : List ℕ
  pub is_round : IsRoundOf s settings lane round prices quota_prices
  pub repaired : IsRepaired s prices plan
  pub worth : value_of_plan s plan ≡ value

-- the claim's placements are the repaired plan of a round that gives its value; with one worker of the first
pub record IsRoundShown (s : Parts) (settings : Settings) (claim : Claim) : Type 0 where
  pub lane : ℕ
  pub round : ℕ
  pub plan : List Placement
  pub gives : IsRoundPlan s settings lane round claim.value plan
  pub listing : IsListing plan claim.placements
  pub first : settings.workers ≡ 1 → (j k : ℕ) (other : List Placement) → IsEarlierRound j k lane round → ¬ (IsRoundPlan s settings j k claim.value other)

-- the claim's placements are the greedy plan's where that has its value, else those of a round that gives it
abbrev pub IsPlanShown : Parts → Settings → Claim → Type 0
IsPlanShown s settings claim =
    (greedy : List Placement) × IsGreedy s greedy
    × (((value_of_plan s greedy ≡ claim.value) × IsListing greedy claim.placements)
    ⊎ ((value_of_plan s greedy < claim.value) × IsRoundShown s settings claim))

-- the claim's value is the greatest of the greedy plan's and of the repaired plans of all rounds
pub record IsGreatestValue (s : Parts) (settings : Settings) (claim : Claim) : Type 0 where
  pub above_greedy : (greedy : List Placement) → IsGreedy s greedy → value_of_plan s greedy ≤ claim.value
  pub above_rounds : (j k v : ℕ) (plan : List Placement) → IsRoundPlan s settings j k v plan → v ≤ claim.value

-- a certified claim with the least bound and the greatest value of all lanes and rounds
pub record IsPlanned (s : Parts) (settings : Settings) (claim : Claim) : Type 0 where
  pub certified : IsCertified s claim
  pub bound : IsLeastBound s settings claim
  pub value : IsGreatestValue s settings claim
  pub plan : IsPlanShown s settings claim
