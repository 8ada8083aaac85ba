-- Which claims are certified for a forest, and the first reason why another isn't.
use Rattle.std.specs.Prelude.{◌≡◌, ◌≢◌, ℕ, ◌<◌, pos, List, length, All}
use Rattle.plan_base.specs.declared.parts.Parts.{Parts}
use Rattle.plan_base.specs.declared.claim.Claim.{Claim}
use Rattle.plan_base.specs.declared.verdict.Reason.TheVariants as checked
use Rattle.plan_base.specs.Requests.{listed}
use Rattle.plan_base.specs.Starts.{value_of_plan}
use Rattle.plan_base.specs.Verdict.{IsPriceInRange, IsFirst, IsReason}
use Rattle.group_trees.specs.declared.verdict.ForestReason.{ForestReason}
use Rattle.group_trees.specs.declared.verdict.ForestReason.TheVariants.{
  UnknownRequest,
  PlacedTwice,
  NotPossible,
  Overlap,
  NotAllowed,
  PriceCount,
  PriceRange,
  QuotaPriceCount,
  ValueDiffers,
  BoundDiffers,
}
use Rattle.group_trees.specs.declared.verdict.ForestVerdict.{ForestVerdict}
use Rattle.group_trees.specs.declared.verdict.ForestVerdict.TheVariants.{Yes, No}
use Rattle.group_trees.specs.Trees.{Node}
use Rattle.group_trees.specs.Forests.{IsAt}
use Rattle.group_trees.specs.Plans.{IsAllowed, IsForestFeasible}
use Rattle.group_trees.specs.Rebates.{IsForestBound}

-- the plan is feasible for the forest, there is a price in its range for each request and none of a quota, and value and bound are those of the
-- plan and the prices
pub record IsForestCertified (s : Parts) (trees : List Node) (claim : Claim) : Type 0 where
  pub feasible : IsForestFeasible s trees claim.placements
  pub price_count : length claim.prices.0 ≡ length (listed s)
  pub price_range : All IsPriceInRange claim.prices.0
  pub no_quota_price : length claim.quota_prices.0 ≡ 0
  pub value : claim.value ≡ value_of_plan s claim.placements
  pub bound : IsForestBound s trees claim.prices.0 (pos claim.bound)

-- what each reason says of the claim: those of a check say what they say there, and the bound is that of the forest
abbrev pub IsForestReason : Parts → List Node → Claim → ForestReason → Type 0
IsForestReason s trees claim (UnknownRequest i) = IsReason s claim (checked.UnknownRequest i)
IsForestReason s trees claim (PlacedTwice i) = IsReason s claim (checked.PlacedTwice i)
IsForestReason s trees claim (NotPossible i) = IsReason s claim (checked.NotPossible i)
IsForestReason s trees claim (Overlap i) = IsReason s claim (checked.Overlap i)
IsForestReason s trees claim (NotAllowed tree) = IsFirst (IsAt (λ t. ¬ (IsAllowed claim.placements t)) trees) tree
IsForestReason s trees claim (PriceCount given wanted) = IsReason s claim (checked.PriceCount given wanted)
IsForestReason s trees claim (PriceRange i) = IsReason s claim (checked.PriceRange i)
IsForestReason s trees claim (QuotaPriceCount given wanted) = IsReason s claim (checked.QuotaPriceCount given wanted)
IsForestReason s trees claim (ValueDiffers claimed found) = IsReason s claim (checked.ValueDiffers claimed found)
IsForestReason s trees claim (BoundDiffers claimed found) = (claimed ≡ claim.bound) × IsForestBound s trees claim.prices.0 (pos found) × (claimed ≢ found)

-- the order in which the tests are made, each over the whole claim before the next
abbrev pub rank_of_reason : ForestReason → ℕ
rank_of_reason (UnknownRequest i) = 1
rank_of_reason (PlacedTwice i) = 2
rank_of_reason (NotPossible i) = 3
rank_of_reason (Overlap i) = 4
rank_of_reason (NotAllowed tree) = 5
rank_of_reason (PriceCount given wanted) = 6
rank_of_reason (PriceRange i) = 7
rank_of_reason (QuotaPriceCount given wanted) = 8
rank_of_reason (ValueDiffers claimed found) = 9
rank_of_reason (BoundDiffers claimed found) = 10

-- this is the first reason in the order
abbrev pub IsFirstForestReason : Parts → List Node → Claim → ForestReason → Type 0
IsFirstForestReason s trees claim reason =
    IsForestReason s trees claim reason × ((other : ForestReason) → rank_of_reason other < rank_of_reason reason → ¬ (IsForestReason s trees claim other))

-- the verdict on a claim: Yes with its value and bound where it is certified, else the first reason
abbrev pub IsForestVerdict : Parts → List Node → Claim → ForestVerdict → Type 0
IsForestVerdict s trees claim (Yes value bound) = IsForestCertified s trees claim × (value ≡ claim.value) × (bound ≡ claim.bound)
IsForestVerdict s trees claim (No reason) = IsFirstForestReason s trees claim reason
