-- Which claims are certified for a snapshot, and the first reason why another isn't.
use Rattle.std.specs.Prelude.{
  ◌≡◌,
  ◌≢◌,
  ℕ,
  ◌≤◌,
  ◌<◌,
  ◌⊎◌,
  ℤ,
  pos,
  neg_ℤ,
  ◌≤ℤ◌,
  List,
  length,
  slice_get,
  slice_index_or,
  Option,
  Some,
  None,
  All,
  Contains,
  HoldsAt,
}
use Rattle.plan_base.specs.declared.parts.Parts.{Parts}
use Rattle.plan_base.specs.declared.parts.Op.TheVariants.{OneOf, And}
use Rattle.plan_base.specs.declared.claim.Placement.{Placement}
use Rattle.plan_base.specs.declared.claim.Claim.{Claim}
use Rattle.plan_base.specs.declared.verdict.Reason.{Reason}
use Rattle.plan_base.specs.declared.verdict.Reason.TheVariants.{
  UnknownRequest,
  PlacedTwice,
  NotPossible,
  Overlap,
  OneofTwice,
  AndPartial,
  QuotaOver,
  PriceCount,
  PriceRange,
  QuotaPriceCount,
  QuotaPriceRange,
  ValueDiffers,
  BoundDiffers,
}
use Rattle.plan_base.specs.declared.verdict.Verdict.{Verdict}
use Rattle.plan_base.specs.declared.verdict.Verdict.TheVariants.{Yes, No}
use Rattle.plan_base.specs.Limits.{most_price, most_quota_price}
use Rattle.plan_base.specs.Requests.{listed, IsKnown, IsOf, IsKind}
use Rattle.plan_base.specs.Starts.{IsPossibleStart, ShareSlice, value_of_plan}
use Rattle.plan_base.specs.Feasible.{requests_of, quota_seconds, quota_at, IsFeasible}
use Rattle.plan_base.specs.Bound.{IsBound}

-- not above the greatest size of a price
abbrev pub IsPriceInRange : ℤ → Type 0
IsPriceInRange p = (neg_ℤ (pos most_price) ≤ℤ p) × (p ≤ℤ pos most_price)

-- empty, or one for each quota
abbrev pub IsQuotaPriceCount : Parts → List ℕ → Type 0
IsQuotaPriceCount s quota_prices = (length quota_prices ≡ 0) ⊎ (length quota_prices ≡ length s.quotas)

-- the plan is feasible, the prices are as many as they should be and in their ranges, and value and bound are those of the plan and the prices
pub record IsCertified (s : Parts) (claim : Claim) : Type 0 where
  pub feasible : IsFeasible s claim.placements
  pub price_count : length claim.prices.0 ≡ length (listed s)
  pub price_range : All IsPriceInRange claim.prices.0
  pub quota_price_count : IsQuotaPriceCount s claim.quota_prices.0
  pub quota_price_range : All (λ u. u ≤ most_quota_price) claim.quota_prices.0
  pub value : claim.value ≡ value_of_plan s claim.placements
  pub bound : IsBound s claim.prices.0 claim.quota_prices.0 (pos claim.bound)

-- i is the first of which P holds
abbrev pub IsFirst : (ℕ → Type 0) → ℕ → Type 0
IsFirst P i = P i × ((j : ℕ) → j < i → ¬ (P j))

-- the placement at i is of a request that the snapshot doesn't have
abbrev pub IsUnknownAt : Parts → List Placement → ℕ → Type 0
IsUnknownAt s plan i = (p : Placement) × (slice_get plan i ≡ Some p) × ¬ (IsKnown s p.request.0)

-- the placement at i isn't a possible start
abbrev pub IsNotPossibleAt : Parts → List Placement → ℕ → Type 0
IsNotPossibleAt s plan i = (p : Placement) × (slice_get plan i ≡ Some p) × ¬ (IsPossibleStart s p)

-- R holds of a placement before i and of that at i
abbrev pub HasEarlier : (Placement → Placement → Type 0) → List Placement → ℕ → Type 0
HasEarlier R plan i = (j : ℕ) × (p q : Placement) × (j < i) × (slice_get plan j ≡ Some p) × (slice_get plan i ≡ Some q) × R p q

-- the group at place g is a ONEOF, and two places of the list have requests of it
abbrev pub IsTwiceAt : Parts → List ℕ → ℕ → Type 0
IsTwiceAt s rs g = IsKind s OneOf g × (i j : ℕ) × (a b : ℕ) × (i < j) × (slice_get rs i ≡ Some a) × (slice_get rs j ≡ Some b) × IsOf s g a × IsOf s g b

-- the group at place g is an AND, and one of its requests is in the list and another isn't
abbrev pub IsPartialAt : Parts → List ℕ → ℕ → Type 0
IsPartialAt s rs g = IsKind s And g × (a b : ℕ) × IsOf s g a × IsOf s g b × Contains rs a × ¬ (Contains rs b)

-- the first group place of which P holds has this number
abbrev pub IsFirstGroup : Parts → (ℕ → Type 0) → ℕ → Type 0
IsFirstGroup s P n = (g : ℕ) × IsFirst P g × HoldsAt (λ x. x.group.0 ≡ n) s.groups g

-- what each reason says of the claim, with its numbers
abbrev pub IsReason : Parts → Claim → Reason → Type 0
IsReason s claim (UnknownRequest i) = IsFirst (IsUnknownAt s claim.placements) i
IsReason s claim (PlacedTwice i) = IsFirst (HasEarlier (λ p q. p.request ≡ q.request) claim.placements) i
IsReason s claim (NotPossible i) = IsFirst (IsNotPossibleAt s claim.placements) i
IsReason s claim (Overlap i) = IsFirst (HasEarlier (ShareSlice s) claim.placements) i
IsReason s claim (OneofTwice group) = IsFirstGroup s (IsTwiceAt s (requests_of claim.placements)) group.0
IsReason s claim (AndPartial group) = IsFirstGroup s (IsPartialAt s (requests_of claim.placements)) group.0
IsReason s claim (QuotaOver quota seconds most) =
    IsFirst (λ q. (q < length s.quotas) × (quota_at s q < quota_seconds s q (requests_of claim.placements))) quota
    × (seconds ≡ quota_seconds s quota (requests_of claim.placements)) × (most ≡ quota_at s quota)
IsReason s claim (PriceCount given wanted) = (given ≡ length claim.prices.0) × (wanted ≡ length (listed s)) × (given ≢ wanted)
IsReason s claim (PriceRange i) = IsFirst (λ j. (j < length claim.prices.0) × ¬ (IsPriceInRange (slice_index_or claim.prices.0 j (pos 0)))) i
IsReason s claim (QuotaPriceCount given wanted) =
    (given ≡ length claim.quota_prices.0) × (wanted ≡ length s.quotas) × ¬ (IsQuotaPriceCount s claim.quota_prices.0)
IsReason s claim (QuotaPriceRange i) = IsFirst (λ j. most_quota_price < slice_index_or claim.quota_prices.0 j 0) i
IsReason s claim (ValueDiffers claimed found) = (claimed ≡ claim.value) × (found ≡ value_of_plan s claim.placements) × (claimed ≢ found)
IsReason s claim (BoundDiffers claimed found) = (claimed ≡ claim.bound) × IsBound s claim.prices.0 claim.quota_prices.0 (pos found) × (claimed ≢ found)

-- the order in which the tests are made, each over the whole claim before the next
abbrev pub rank_of : Reason → ℕ
rank_of (UnknownRequest i) = 1
rank_of (PlacedTwice i) = 2
rank_of (NotPossible i) = 3
rank_of (Overlap i) = 4
rank_of (OneofTwice group) = 5
rank_of (AndPartial group) = 6
rank_of (QuotaOver quota seconds most) = 7
rank_of (PriceCount given wanted) = 8
rank_of (PriceRange i) = 9
rank_of (QuotaPriceCount given wanted) = 10
rank_of (QuotaPriceRange i) = 11
rank_of (ValueDiffers claimed found) = 12
rank_of (BoundDiffers claimed found) = 13

-- the claim is certified, or this is the first reason in the order
abbrev pub IsFirstReason : Parts → Claim → Option Reason → Type 0
IsFirstReason s claim None = IsCertified s claim
IsFirstReason s claim (Some reason) = IsReason s claim reason × ((other : Reason) → rank_of other < rank_of reason → ¬ (IsReason s claim other))

-- what is said of a claim with this first reason, or none
abbrev pub verdict_of : Claim → Option Reason → Verdict
verdict_of claim None = Yes claim.value claim.bound
verdict_of claim (Some reason) = No reason

-- the verdict on a claim
abbrev pub IsVerdict : Parts → Claim → Verdict → Type 0
IsVerdict s claim verdict = (found : Option Reason) × IsFirstReason s claim found × (verdict ≡ verdict_of claim found)
