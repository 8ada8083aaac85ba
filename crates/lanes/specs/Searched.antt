-- Which rounds of which lanes need not be made.
use Rattle.std.specs.Prelude.{◌≡◌, ℕ, ◌≤◌, ◌<◌, ◌⊎◌, ℤ, List, Any, Contains}
use Rattle.plan_base.specs.declared.parts.Parts.{Parts}
use Rattle.plan_base.specs.declared.claim.Placement.{Placement}
use Rattle.plan_base.specs.declared.claim.Settings.{Settings}
use Rattle.board.specs.declared.seat.SeatView.{SeatView}
use Rattle.board.specs.Views.{no_bound}
use Rattle.lanes.specs.Found.{FoundSeen, IsBoundMade, IsValueMade, IsFound}

-- a lane, and how many of its rounds were made
pub record LaneRounds : Type 0 where
  pub lane : ℕ
  pub rounds : ℕ

-- round k of lane j was made
abbrev pub IsMade : List LaneRounds → ℕ → ℕ → Type 0
IsMade made j k = Any (λ x. (x.lane ≡ j) × (k < x.rounds)) made

-- the rounds that were made of lane j and those before it
abbrev pub up_to : (ℕ → ℕ → Type 0) → ℕ → ℕ → ℕ → Type 0
up_to made j i k = made i k × (i ≤ j)

-- the bound is that of a round that was made, or none
abbrev pub IsBoundGiven : Parts → (ℕ → ℕ → Type 0) → ℕ → Type 0
IsBoundGiven s made bound = (bound ≡ no_bound) ⊎ ((prices : List ℤ) × (quota_prices : List ℕ) × IsBoundMade s made bound prices quota_prices)

-- the value is that of a round that was made, or no more than the opening one
abbrev pub IsValueGiven : Parts → (ℕ → ℕ → Type 0) → ℕ → ℕ → Type 0
IsValueGiven s made opening value = (value ≤ opening) ⊎ ((plan : List Placement) × IsValueMade s made value plan)

-- a bound that lanes up to j gave is no higher than a value that they gave, or the opening one
pub record IsMetBy (s : Parts) (made : ℕ → ℕ → Type 0) (opening j : ℕ) : Type 0 where
  pub bound : ℕ
  pub value : ℕ
  pub gives : IsBoundGiven s (up_to made j) bound
  pub has : IsValueGiven s (up_to made j) opening value
  pub met : bound ≤ value

-- the seat saw a bound no higher than a value
abbrev pub IsMetFor : SeatView → Type 0
IsMetFor v = v.lowest_seen ≤ v.greatest_seen

-- all rounds of lane j were made; or bound and value have met, and with one worker by what lanes up to j gave
abbrev pub IsLaneDone : Parts → Settings → (ℕ → ℕ → Type 0) → ℕ → SeatView → ℕ → Type 0
IsLaneDone s settings made opening v j = ((k : ℕ) → k < settings.rounds → made j k) ⊎ (IsMetFor v × (settings.workers ≡ 1 → IsMetBy s made opening j))

-- bound and value have met, and with one worker before any round of lane j or of a later one
abbrev pub IsLeftOut : Settings → (ℕ → ℕ → Type 0) → SeatView → ℕ → Type 0
IsLeftOut settings made v j = IsMetFor v × (settings.workers ≡ 1 → (i k : ℕ) → made i k → i < j)

-- what was found in the lanes that a seat claimed: the rounds that were made, and why no more of them were
pub record IsSearched (s : Parts) (settings : Settings) (opening : ℕ) (opening_plan : List Placement) (v : SeatView) (f : FoundSeen) : Type 0 where
  pub made : List LaneRounds
  pub within : (j k : ℕ) → IsMade made j k → (j < settings.lanes) × (k < settings.rounds)
  pub claimed : (j k : ℕ) → IsMade made j k → Contains v.claims j
  pub found : IsFound s settings.workers (IsMade made) opening opening_plan f
  pub bound_given : IsBoundGiven s (IsMade made) v.least_given
  pub value_given : IsValueGiven s (IsMade made) opening v.greatest_given
  pub lanes : (j : ℕ) → Contains v.claims j → j < settings.lanes → IsLaneDone s settings (IsMade made) opening v j ⊎ IsLeftOut settings (IsMade made) v j

-- a number that is no lane was claimed, or bound and value have met
abbrev pub IsEnded : Settings → SeatView → Type 0
IsEnded settings v = ((n : ℕ) × (settings.lanes ≤ n) × Contains v.claims n) ⊎ IsMetFor v
