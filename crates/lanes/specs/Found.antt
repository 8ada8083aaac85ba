-- What rounds have found. Which rounds were made is a set of lanes and rounds.
use Rattle.std.specs.Prelude.{◌≡◌, ℕ, ◌≤◌, ◌<◌, ◌⊎◌, nat_lt, if◌then◌else◌, ℤ, pos, ◌≤ℤ◌, List, [], length, replicate, All}
use Rattle.plan_base.specs.declared.parts.Parts.{Parts}
use Rattle.plan_base.specs.declared.claim.Placement.{Placement}
use Rattle.plan_base.specs.Limits.{most_quota_price}
use Rattle.plan_base.specs.Requests.{listed}
use Rattle.plan_base.specs.Starts.{value_of_plan}
use Rattle.plan_base.specs.Feasible.{IsFeasible}
use Rattle.plan_base.specs.Bound.{IsBound}
use Rattle.plan_base.specs.Round.{IsRoundPrices}
use Rattle.plan_base.specs.Repaired.{IsRepaired}
use Rattle.plan_base.specs.Planned.{IsEarlierRound}
use Rattle.plan_base.specs.Verdict.{IsPriceInRange}
use Rattle.board.specs.Views.{no_bound}

-- a bound with the prices that give it, and a value with the plan that has it
pub record FoundSeen : Type 0 where
  pub bound : ℕ
  pub prices : List ℤ
  pub quota_prices : List ℕ
  pub value : ℕ
  pub plan : List Placement

-- nothing was found, and this is the value that plans have to pass
abbrev pub nothing : Parts → ℕ → FoundSeen
nothing s value = record {
  bound = no_bound;
  prices = replicate (length (listed s)) (pos 0);
  quota_prices = replicate (length s.quotas) 0;
  value = value;
  plan = [];
}

-- what was found is forgotten, but for the prices, of whose bound nothing is said
abbrev pub cleared : FoundSeen → FoundSeen
cleared f = record f { bound = no_bound; value = 0; plan = [] }

-- the bound and its prices give way to these where their bound is lower
abbrev pub lowered : FoundSeen → ℕ → List ℤ → List ℕ → FoundSeen
lowered f bound prices quota_prices =
    record f {
      bound = if nat_lt bound f.bound then bound else f.bound;
      prices = if nat_lt bound f.bound then prices else f.prices;
      quota_prices = if nat_lt bound f.bound then quota_prices else f.quota_prices;
    }

-- the value and its plan give way to these where their value is greater
abbrev pub raised : FoundSeen → ℕ → List Placement → FoundSeen
raised f value plan = record f { value = if nat_lt f.value value then value else f.value; plan = if nat_lt f.value value then plan else f.plan }

-- each of both gives way to the later where that is better
abbrev pub bettered : FoundSeen → FoundSeen → FoundSeen
bettered f later = raised (lowered f later.bound later.prices later.quota_prices) later.value later.plan

-- a price for each request and for each quota, each in its range
pub record ArePrices (s : Parts) (prices : List ℤ) (quota_prices : List ℕ) : Type 0 where
  pub count : length prices ≡ length (listed s)
  pub quota_count : length quota_prices ≡ length s.quotas
  pub range : All IsPriceInRange prices
  pub quota_range : All (λ u. u ≤ most_quota_price) quota_prices

-- the bound is that of a round that was made, at these prices
pub record IsBoundMade (s : Parts) (made : ℕ → ℕ → Type 0) (bound : ℕ) (prices : List ℤ) (quota_prices : List ℕ) : Type 0 where
  pub lane : ℕ
  pub round : ℕ
  pub was_made : made lane round
  pub gives : IsRoundPrices s lane round prices quota_prices
  pub is_bound : IsBound s prices quota_prices (pos bound)

-- the value is that of the plan that is repaired in a round that was made
pub record IsValueMade (s : Parts) (made : ℕ → ℕ → Type 0) (value : ℕ) (plan : List Placement) : Type 0 where
  pub lane : ℕ
  pub round : ℕ
  pub prices : List ℤ
  pub quota_prices : List ℕ
  pub was_made : made lane round
  pub gives : IsRoundPrices s lane round prices quota_prices
  pub repaired : IsRepaired s prices plan
  pub worth : value_of_plan s plan ≡ value

-- the least bound of the rounds that were made, with the prices of a round that gives it; with one worker of the first
pub record IsLeastMade (s : Parts) (workers : ℕ) (made : ℕ → ℕ → Type 0) (bound : ℕ) (prices : List ℤ) (quota_prices : List ℕ) : Type 0 where
  pub reached : IsBoundMade s made bound prices quota_prices
  pub least : (j k : ℕ) (c : List ℤ) (u : List ℕ) (b : ℤ) → made j k → IsRoundPrices s j k c u → IsBound s c u b → pos bound ≤ℤ b
  pub first : workers ≡ 1 → (j k : ℕ) (c : List ℤ) (u : List ℕ) → made j k → IsEarlierRound j k reached.lane reached.round → IsRoundPrices s j k c u
      → ¬ (IsBound s c u (pos bound))

-- that, or no bound where no round was made
abbrev pub IsBoundFound : Parts → ℕ → (ℕ → ℕ → Type 0) → ℕ → List ℤ → List ℕ → Type 0
IsBoundFound s workers made bound prices quota_prices =
    (((j k : ℕ) → ¬ (made j k)) × (bound ≡ no_bound)) ⊎ IsLeastMade s workers made bound prices quota_prices

-- the plan of a round that was made, which has this value; with one worker of the first
pub record IsFirstValue (s : Parts) (workers : ℕ) (made : ℕ → ℕ → Type 0) (value : ℕ) (plan : List Placement) : Type 0 where
  pub reached : IsValueMade s made value plan
  pub first : workers ≡ 1 → (j k : ℕ) (c : List ℤ) (u : List ℕ) (q : List Placement) → made j k → IsEarlierRound j k reached.lane reached.round
      → IsRoundPrices s j k c u → IsRepaired s c q → ¬ (value_of_plan s q ≡ value)

-- the greatest of an opening value and the values of the rounds that were made, with the opening plan or, above its value, a round's
pub record IsValueFound (s : Parts) (workers : ℕ) (made : ℕ → ℕ → Type 0) (opening : ℕ) (opening_plan : List Placement)
    (value : ℕ) (plan : List Placement) : Type 0 where
  pub above_opening : opening ≤ value
  pub above : (j k : ℕ) (c : List ℤ) (u : List ℕ) (q : List Placement) → made j k → IsRoundPrices s j k c u → IsRepaired s c q → value_of_plan s q ≤ value
  pub reached : ((value ≡ opening) × (plan ≡ opening_plan)) ⊎ ((opening < value) × IsFirstValue s workers made value plan)

-- what the rounds that were made have found, beyond an opening value and plan
pub record IsFound (s : Parts) (workers : ℕ) (made : ℕ → ℕ → Type 0) (opening : ℕ) (opening_plan : List Placement) (f : FoundSeen) : Type 0 where
  pub bound : IsBoundFound s workers made f.bound f.prices f.quota_prices
  pub value : IsValueFound s workers made opening opening_plan f.value f.plan
  pub prices : ArePrices s f.prices f.quota_prices
  pub feasible : IsFeasible s f.plan
