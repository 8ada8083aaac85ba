-- The Lagrangian dual bound that prices give, of three sums: over the telescopes, the groups and the quotas.
use Rattle.std.specs.Prelude.{◌≡◌, ◌≢◌, ℕ, ◌*◌, ◌≤◌, ℤ, pos, ◌+ℤ◌, ◌-ℤ◌, ◌≤ℤ◌, List, length, slice_index_or, Option, Some, None, All, AllPairs}
use Rattle.plan_base.specs.declared.parts.Parts.{Parts}
use Rattle.plan_base.specs.declared.parts.Op.TheVariants.{OneOf, And}
use Rattle.plan_base.specs.declared.claim.Placement.{Placement}
use Rattle.plan_base.specs.Sums.{total, IsSumOf}
use Rattle.plan_base.specs.Requests.{place_of, seconds_of, quota_of, IsOf, IsKind, AllOrNone}
use Rattle.plan_base.specs.Starts.{IsPossibleStart, ShareSlice, worth_at}
use Rattle.plan_base.specs.Feasible.{quota_at}

-- the price of request r: there is one per request, in their order
abbrev pub price : Parts → List ℤ → ℕ → ℤ
price s prices r = slice_index_or prices (place_of s r) (pos 0)

-- possible starts of telescope t at slice k or later, no two of which share a slice; a request may stand twice
pub record IsStartList (s : Parts) (t k : ℕ) (starts : List Placement) : Type 0 where
  pub possible : All (IsPossibleStart s) starts
  pub same_telescope : All (λ p. p.telescope.0 ≡ t) starts
  pub later : All (λ p. k ≤ p.slice.0) starts
  pub disjoint : AllPairs (λ a b. ¬ (ShareSlice s a b)) starts

-- what a start is worth beyond its request's price
abbrev pub weight : Parts → List ℤ → Placement → ℤ
weight s prices p = pos (worth_at s p) -ℤ price s prices p.request.0

-- what starts are worth beyond their prices
abbrev pub surplus : Parts → List ℤ → List Placement → ℤ
surplus s prices starts = total (weight s prices) starts

-- b is the greatest surplus of a list of starts of telescope t at slice k or later
pub record IsBest (s : Parts) (prices : List ℤ) (t k : ℕ) (b : ℤ) : Type 0 where
  pub reached : (starts : List Placement) × IsStartList s t k starts × (surplus s prices starts ≡ b)
  pub bound : (starts : List Placement) → IsStartList s t k starts → surplus s prices starts ≤ℤ b

-- what seconds cost at the price of the quota that is named, if one is
abbrev pub quota_cost : List ℕ → ℕ → Option ℕ → ℕ
quota_cost quota_prices seconds None = 0
quota_cost quota_prices seconds (Some q) = slice_index_or quota_prices q 0 * seconds

-- the price of request r less what its seconds cost of its quota
abbrev pub net_price : Parts → List ℤ → List ℕ → ℕ → ℤ
net_price s prices quota_prices r = price s prices r -ℤ pos (quota_cost quota_prices (seconds_of s r) (quota_of s r))

-- a set of requests of the group at place g that its kind allows
pub record IsAllowedChoice (s : Parts) (g : ℕ) (choice : List ℕ) : Type 0 where
  pub members : All (IsOf s g) choice
  pub once : AllPairs (λ a b. a ≢ b) choice
  pub one_of : IsKind s OneOf g → length choice ≤ 1
  pub whole : IsKind s And g → AllOrNone s g choice

-- b is the greatest sum of what c gives of the requests of an allowed choice
pub record IsRebate (s : Parts) (c : ℕ → ℤ) (g : ℕ) (b : ℤ) : Type 0 where
  pub reached : (choice : List ℕ) × IsAllowedChoice s g choice × (total c choice ≡ b)
  pub bound : (choice : List ℕ) → IsAllowedChoice s g choice → total c choice ≤ℤ b

-- the price of quota q times the quota
abbrev pub IsQuotaPart : Parts → List ℕ → ℕ → ℤ → Type 0
IsQuotaPart s quota_prices q b = b ≡ pos (slice_index_or quota_prices q 0 * quota_at s q)

-- the sum of the bests from the first slice on, the rebates over net prices, and the quotas at their prices
pub record IsBound (s : Parts) (prices : List ℤ) (quota_prices : List ℕ) (b : ℤ) : Type 0 where
  pub bests : ℤ
  pub rebates : ℤ
  pub quotas : ℤ
  pub best : IsSumOf (length s.telescopes) (λ t. IsBest s prices t s.first.0) bests
  pub rebate : IsSumOf (length s.groups) (IsRebate s (net_price s prices quota_prices)) rebates
  pub quota : IsSumOf (length s.quotas) (IsQuotaPart s quota_prices) quotas
  pub whole : b ≡ bests +ℤ rebates +ℤ quotas
