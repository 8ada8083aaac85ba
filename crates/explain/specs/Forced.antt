-- The most that a feasible plan may be worth, as a claim's prices show it, if it places a request.
use Rattle.std.specs.Prelude.{◌≡◌, ℕ, ◌<◌, Bool, true, ℤ, pos, int_lt, ◌+ℤ◌, ◌-ℤ◌, ◌≤ℤ◌, List, Contains}
use Rattle.plan_base.specs.declared.parts.Parts.{Parts}
use Rattle.plan_base.specs.declared.claim.Placement.{Placement}
use Rattle.plan_base.specs.declared.claim.Claim.{Claim}
use Rattle.plan_base.specs.Requests.{group_of}
use Rattle.plan_base.specs.Starts.{value_of_plan}
use Rattle.plan_base.specs.Feasible.{requests_of, IsFeasible}
use Rattle.plan_base.specs.Bound.{IsBest, net_price, IsRebate}
use Rattle.openings.specs.Openings.{IsStartFor, IsStartAt}
use Rattle.explain.specs.declared.answer.Forced.{Forced}
use Rattle.explain.specs.declared.answer.Forced.TheVariants.{NoStart, Bound}
use Rattle.explain.specs.Through.{IsThrough}
use Rattle.explain.specs.Choice.{IsRebateWith}

-- telescope t has a start of request r
abbrev pub CanTake : Parts → ℕ → ℕ → Type 0
CanTake s t r = (p : Placement) × IsStartAt s t r p

-- d is what telescope t gives where it takes request r, less the best that it gives
pub record IsDetour (s : Parts) (prices : List ℤ) (t r : ℕ) (d : ℤ) : Type 0 where
  pub through : ℤ
  pub best : ℤ
  pub is_through : IsThrough s prices t r through
  pub is_best : IsBest s prices t s.first.0 best
  pub difference : d ≡ through -ℤ best

-- b is the greatest detour of a telescope that has a start of request r
pub record IsGreatestDetour (s : Parts) (prices : List ℤ) (r : ℕ) (b : ℤ) : Type 0 where
  pub reached : (t : ℕ) × CanTake s t r × IsDetour s prices t r b
  pub bound : (t : ℕ) → CanTake s t r → (d : ℤ) × IsDetour s prices t r d × (d ≤ℤ b)

-- the claim's bound, with the rebate of the group of r where r is taken for its rebate, and the greatest detour added
pub record IsForcedBound (s : Parts) (claim : Claim) (r : ℕ) (b : ℤ) : Type 0 where
  pub rebate : ℤ
  pub rebate_with : ℤ
  pub detour : ℤ
  pub is_rebate : IsRebate s (net_price s claim.prices.0 claim.quota_prices.0) (group_of s r) rebate
  pub is_rebate_with : IsRebateWith s (net_price s claim.prices.0 claim.quota_prices.0) (group_of s r) r rebate_with
  pub is_detour : IsGreatestDetour s claim.prices.0 r detour
  pub whole : b ≡ pos claim.bound -ℤ rebate +ℤ rebate_with +ℤ detour

-- what is said of request r: that it has no possible start, or the bound on plans that place it
abbrev pub ForcedValue : Parts → Claim → ℕ → Forced → Type 0
ForcedValue s claim r NoStart = (p : Placement) → ¬ (IsStartFor s r p)
ForcedValue s claim r (Bound b) = IsForcedBound s claim r b

-- whether what is said of a request excludes it from all plans of that value: it has no start, or its bound is below the value
abbrev pub is_excluded : ℕ → Forced → Bool
is_excluded value NoStart = true
is_excluded value (Bound b) = int_lt b (pos value)

-- what is said of a request excludes it from all plans of the claim's value
abbrev pub Excludes : Claim → Forced → Type 0
Excludes claim forced = is_excluded claim.value forced ≡ true

-- a feasible plan that places request r
pub record IsPlanWith (s : Parts) (r : ℕ) (plan : List Placement) : Type 0 where
  pub feasible : IsFeasible s plan
  pub places : Contains (requests_of plan) r

-- no feasible plan that places request r is worth the claim's value
abbrev pub IsInNoGoodPlan : Parts → Claim → ℕ → Type 0
IsInNoGoodPlan s claim r = (plan : List Placement) → IsPlanWith s r plan → value_of_plan s plan < claim.value
