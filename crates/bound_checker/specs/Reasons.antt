-- What the tests of a claim say together, as far as they have come.
use Rattle.std.specs.Prelude.{◌≡◌, ℕ, ◌≤◌, ◌<◌, List, length, All, Some}
use Rattle.plan_base.specs.Limits.{most_quota_price}
use Rattle.plan_base.specs.declared.parts.Parts.{Parts}
use Rattle.plan_base.specs.declared.claim.Placement.{Placement}
use Rattle.plan_base.specs.declared.claim.Claim.{Claim}
use Rattle.plan_base.specs.declared.verdict.Reason.{Reason}
use Rattle.plan_base.specs.Requests.{listed}
use Rattle.plan_base.specs.Feasible.{IsEachPossible, IsEachOnce, IsDisjoint, IsOneofOnce, IsAndWhole}
use Rattle.plan_base.specs.Verdict.{IsPriceInRange, IsQuotaPriceCount, IsFirstReason}
use Rattle.bound_checker.specs.Claims.{IsEachKnown}

-- the reason holds of the claim, and none before it does
abbrev pub IsFoundFirst : Parts → Claim → Reason → Type 0
IsFoundFirst s claim reason = IsFirstReason s claim (Some reason)

-- each placement is a possible start, no request is placed twice, and no two placements share a slice
pub record ArePlaced (s : Parts) (plan : List Placement) : Type 0 where
  pub known : IsEachKnown s plan
  pub once : IsEachOnce plan
  pub possible : IsEachPossible s plan
  pub disjoint : IsDisjoint s plan

-- and the plan obeys the kinds of the groups
pub record AreKindsKept (s : Parts) (plan : List Placement) : Type 0 where
  pub placed : ArePlaced s plan
  pub oneof_once : IsOneofOnce s plan
  pub and_whole : IsAndWhole s plan

-- there is one price for each request, each in its range
pub record ArePricesFit (s : Parts) (claim : Claim) : Type 0 where
  pub count : length claim.prices.0 ≡ length (listed s)
  pub range : All IsPriceInRange claim.prices.0

-- and the quota prices are as many as they should be, and in their range
pub record AreAllPricesFit (s : Parts) (claim : Claim) : Type 0 where
  pub prices : ArePricesFit s claim
  pub quota_count : IsQuotaPriceCount s claim.quota_prices.0
  pub quota_range : All (λ u. u ≤ most_quota_price) claim.quota_prices.0
