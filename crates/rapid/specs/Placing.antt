-- What is known before a new request is placed and priced, and what comes of it.
use Rattle.std.specs.Prelude.{◌≡◌, ℕ, ◌+◌, ℤ, pos, List, [], ◌∷◌, ◌++◌, Contains}
use Rattle.plan_base.specs.declared.parts.Parts.{Parts}
use Rattle.plan_base.specs.declared.parts.Op.TheVariants.{Single}
use Rattle.plan_base.specs.declared.claim.Placement.{Placement}
use Rattle.plan_base.specs.declared.claim.Claim.{Claim}
use Rattle.plan_base.specs.Requests.{IsKnown, group_of, IsKind}
use Rattle.plan_base.specs.Starts.{value_of_plan}
use Rattle.plan_base.specs.Feasible.{requests_of, IsFeasible}
use Rattle.plan_base.specs.Bound.{IsBound}
use Rattle.plan_base.specs.Verdict.{IsPriceInRange}
use Rattle.rapid.specs.declared.placing.Placing.{Placing}
use Rattle.rapid.specs.declared.pricing.Pricing.{Pricing}
use Rattle.rapid.specs.Insertion.{IsPlacing, IsNewPrice}
use Rattle.rapid.specs.Tables.{AreTables}

-- request r is the one of a SINGLE, and the plan is feasible and doesn't place it
pub record IsReady (s : Parts) (plan : List Placement) (r : ℕ) : Type 0 where
  pub known : IsKnown s r
  pub single : IsKind s Single (group_of s r)
  pub feasible : IsFeasible s plan
  pub unplaced : ¬ (Contains (requests_of plan) r)

-- the request is placed or has no place, the new plan is feasible, and this is what it is worth more
pub record IsPlacedSo (s : Parts) (plan : List Placement) (r : ℕ) (p : Placing) : Type 0 where
  pub placing : IsPlacing s plan r p.inserted p.placements p.displaced
  pub feasible : IsFeasible s p.placements
  pub gain : value_of_plan s p.placements ≡ value_of_plan s plan + p.gain

-- the last request has this price beside the old ones, and these are their tables and their bound
pub record IsPricedSo (s : Parts) (claim : Claim) (value : ℕ) (p : Pricing) : Type 0 where
  pub price : ℤ
  pub new_price : IsNewPrice s claim value price
  pub in_range : IsPriceInRange price
  pub prices : p.prices.0 ≡ claim.prices.0 ++ price ∷ []
  pub tables : AreTables s p.prices.0 p.tables
  pub bound : IsBound s p.prices.0 claim.quota_prices.0 (pos p.bound)
