-- Which plans are feasible.
use Rattle.std.specs.Prelude.{◌≢◌, ℕ, ◌≤◌, ◌<◌, Bool, false, ◌==◌, List, length, map, slice_index_or, Option, Some, None, All, AllPairs, filter, sum_by}
use Rattle.plan_base.specs.declared.parts.Parts.{Parts}
use Rattle.plan_base.specs.declared.parts.Op.TheVariants.{OneOf, And}
use Rattle.plan_base.specs.declared.claim.Placement.{Placement}
use Rattle.plan_base.specs.Requests.{seconds_of, quota_of, IsOf, IsKind, AllOrNone}
use Rattle.plan_base.specs.Starts.{IsPossibleStart, ShareSlice}

-- the requests that a plan places
abbrev pub requests_of : List Placement → List ℕ
requests_of plan = map (λ p. p.request.0) plan

-- a and b are requests of one ONEOF
abbrev pub AreOfOneOneOf : Parts → ℕ → ℕ → Type 0
AreOfOneOneOf s a b = (g : ℕ) × IsKind s OneOf g × IsOf s g a × IsOf s g b

-- whether this quota is the one that is named
abbrev pub is_quota : ℕ → Option ℕ → Bool
is_quota q None = false
is_quota q (Some p) = p == q

-- the seconds of those requests of the list whose groups name quota q
abbrev pub quota_seconds : Parts → ℕ → List ℕ → ℕ
quota_seconds s q rs = sum_by (seconds_of s) (filter (λ r. is_quota q (quota_of s r)) rs)

-- how many seconds may be placed of quota q
abbrev pub quota_at : Parts → ℕ → ℕ
quota_at s q = slice_index_or s.quotas q 0

-- each placement is a possible start
abbrev pub IsEachPossible : Parts → List Placement → Type 0
IsEachPossible s plan = All (IsPossibleStart s) plan

-- no two places of the list have the same request
abbrev pub IsEachOnce : List Placement → Type 0
IsEachOnce plan = AllPairs (λ a b. a ≢ b) (requests_of plan)

-- no two placements share a slice
abbrev pub IsDisjoint : Parts → List Placement → Type 0
IsDisjoint s plan = AllPairs (λ a b. ¬ (ShareSlice s a b)) plan

-- no two have requests of one ONEOF
abbrev pub IsOneofOnce : Parts → List Placement → Type 0
IsOneofOnce s plan = AllPairs (λ a b. ¬ (AreOfOneOneOf s a b)) (requests_of plan)

-- of each AND all its requests are placed, or none
abbrev pub IsAndWhole : Parts → List Placement → Type 0
IsAndWhole s plan = (g : ℕ) → IsKind s And g → AllOrNone s g (requests_of plan)

-- for each quota the seconds of the placed requests whose groups name it are at most the quota
abbrev pub IsWithinQuotas : Parts → List Placement → Type 0
IsWithinQuotas s plan = (q : ℕ) → q < length s.quotas → quota_seconds s q (requests_of plan) ≤ quota_at s q

-- the rules of a plan, one a field
pub record IsFeasible (s : Parts) (plan : List Placement) : Type 0 where
  pub possible : IsEachPossible s plan
  pub once : IsEachOnce plan
  pub disjoint : IsDisjoint s plan
  pub oneof_once : IsOneofOnce s plan
  pub and_whole : IsAndWhole s plan
  pub within_quotas : IsWithinQuotas s plan
