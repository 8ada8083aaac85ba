-- What a check without trees tells of a check with them.
use Rattle.std.specs.Prelude.{◌≡◌, ◌≢◌, ℕ, ◌<◌, pos, List, length, All}
use Rattle.plan_base.specs.declared.parts.Parts.{Parts}
use Rattle.plan_base.specs.declared.claim.Claim.{Claim}
use Rattle.plan_base.specs.declared.verdict.Reason.{Reason}
use Rattle.plan_base.specs.declared.verdict.Reason.TheVariants as checked
use Rattle.plan_base.specs.declared.verdict.Verdict.{Verdict}
use Rattle.plan_base.specs.declared.verdict.Verdict.TheVariants.{Yes, No}
use Rattle.plan_base.specs.Requests.{listed}
use Rattle.plan_base.specs.Starts.{value_of_plan}
use Rattle.plan_base.specs.Bound.{IsBound}
use Rattle.plan_base.specs.Verdict.{IsPriceInRange}
use Rattle.bound_checker.specs.Reasons.{ArePlaced}
use Rattle.group_trees.specs.declared.verdict.ForestReason.{ForestReason}
use Rattle.group_trees.specs.declared.verdict.ForestReason.TheVariants.{
  UnknownRequest,
  PlacedTwice,
  NotPossible,
  Overlap,
  PriceCount,
  PriceRange,
  QuotaPriceCount,
  ValueDiffers,
}
use Rattle.group_trees.specs.declared.turned.Turned.{Turned}
use Rattle.group_trees.specs.declared.turned.Turned.TheVariants.{Placed, Priced, Bounded, Other}
use Rattle.group_trees.specs.Trees.{Node}
use Rattle.group_trees.specs.Verdicts.{IsForestReason, IsFirstForestReason, rank_of_reason}

-- what a reason tells: wrong placements, wrong prices or a wrong value, or the bound that was found; Other where no snapshot of a forest gives it
abbrev pub turned_reason : Reason → Turned
turned_reason (checked.UnknownRequest i) = Placed (UnknownRequest i)
turned_reason (checked.PlacedTwice i) = Placed (PlacedTwice i)
turned_reason (checked.NotPossible i) = Placed (NotPossible i)
turned_reason (checked.Overlap i) = Placed (Overlap i)
turned_reason (checked.OneofTwice group) = Other
turned_reason (checked.AndPartial group) = Other
turned_reason (checked.QuotaOver quota seconds most) = Other
turned_reason (checked.PriceCount given wanted) = Priced (PriceCount given wanted)
turned_reason (checked.PriceRange i) = Priced (PriceRange i)
turned_reason (checked.QuotaPriceCount given wanted) = Priced (QuotaPriceCount given wanted)
turned_reason (checked.QuotaPriceRange i) = Other
turned_reason (checked.ValueDiffers claimed found) = Priced (ValueDiffers claimed found)
turned_reason (checked.BoundDiffers claimed found) = Bounded found

-- what a verdict tells: a Yes the bound, which was found to be right, and a No what its reason tells
abbrev pub turned : Verdict → Turned
turned (Yes value bound) = Bounded bound
turned (No reason) = turned_reason reason

-- all but the trees and the bound is right
pub record AreSumsFit (s : Parts) (claim : Claim) : Type 0 where
  pub placed : ArePlaced s claim.placements
  pub price_count : length claim.prices.0 ≡ length (listed s)
  pub price_range : All IsPriceInRange claim.prices.0
  pub no_quota_price : length claim.quota_prices.0 ≡ 0
  pub value : claim.value ≡ value_of_plan s claim.placements

-- the reason holds, and none before it, whatever is said of the trees
pub record IsPricedFirst (s : Parts) (claim : Claim) (reason : ForestReason) : Type 0 where
  pub placed : ArePlaced s claim.placements
  pub holds : (trees : List Node) → IsForestReason s trees claim reason
  pub first : (trees : List Node) (other : ForestReason) → rank_of_reason other < rank_of_reason reason → rank_of_reason other ≢ 5
      → ¬ (IsForestReason s trees claim other)

-- all but the trees and the bound is right, and the prices give this bound where each group stands alone
pub record IsBoundedBy (s : Parts) (claim : Claim) (found : ℕ) : Type 0 where
  pub fit : AreSumsFit s claim
  pub bound : IsBound s claim.prices.0 claim.quota_prices.0 (pos found)

-- what is told of a claim
abbrev pub IsTurned : Parts → Claim → Turned → Type 0
IsTurned s claim (Placed reason) = (trees : List Node) → IsFirstForestReason s trees claim reason
IsTurned s claim (Priced reason) = IsPricedFirst s claim reason
IsTurned s claim (Bounded found) = IsBoundedBy s claim found
IsTurned s claim Other = ⊥
