-- Which starts are free under a plan, and when none is left to add.
use Rattle.std.specs.Prelude.{◌≡◌, ℕ, ◌+◌, ◌≤◌, ◌<◌, ◌⊎◌, List, [], ◌∷◌, ◌++◌, Some, All, Contains}
use Rattle.plan_base.specs.declared.parts.Parts.{Parts}
use Rattle.plan_base.specs.declared.parts.Op.TheVariants.{Single, Many, OneOf, And}
use Rattle.plan_base.specs.declared.claim.Placement.{Placement}
use Rattle.plan_base.specs.Requests.{seconds_of, quota_of, IsOf, IsKind, members}
use Rattle.plan_base.specs.Starts.{IsPossibleStart, ShareSlice}
use Rattle.plan_base.specs.Feasible.{requests_of, quota_seconds, quota_at}

-- a possible start, none of whose slices the plan occupies, whose seconds can be added within the quota of its group
pub record IsFree (s : Parts) (plan : List Placement) (p : Placement) : Type 0 where
  pub possible : IsPossibleStart s p
  pub apart : All (λ q. ¬ (ShareSlice s p q)) plan
  pub within_quota : (q : ℕ) → quota_of s p.request.0 ≡ Some q → quota_seconds s q (requests_of plan) + seconds_of s p.request.0 ≤ quota_at s q

-- request r has no free start
abbrev pub HasNoFree : Parts → List Placement → ℕ → Type 0
HasNoFree s plan r = (p : Placement) → p.request.0 ≡ r → ¬ (IsFree s plan p)

-- no request of the group at place g is placed
abbrev pub HasNonePlaced : Parts → List Placement → ℕ → Type 0
HasNonePlaced s plan g = All (λ r. ¬ (Contains (requests_of plan) r)) (members s g)

-- a ONEOF of which nothing is placed
abbrev pub IsUntouched : Parts → List Placement → ℕ → Type 0
IsUntouched s plan g = IsKind s OneOf g × HasNonePlaced s plan g

-- an AND of which nothing is placed
abbrev pub IsAbsent : Parts → List Placement → ℕ → Type 0
IsAbsent s plan g = IsKind s And g × HasNonePlaced s plan g

-- a begins no later than b, and on no higher telescope where they begin together
abbrev pub IsNoLater : Placement → Placement → Type 0
IsNoLater a b = (a.slice.0 < b.slice.0) ⊎ ((a.slice ≡ b.slice) × (a.telescope.0 ≤ b.telescope.0))

-- the earliest free start of request r, on the lowest telescope among equals
pub record IsEarliestFree (s : Parts) (plan : List Placement) (r : ℕ) (p : Placement) : Type 0 where
  pub same_request : p.request.0 ≡ r
  pub free : IsFree s plan p
  pub earliest : (q : Placement) → q.request.0 ≡ r → IsFree s plan q → IsNoLater p q

-- each of the requests in order takes its earliest free start, and occupies it before the next
abbrev pub TakesEach : Parts → List Placement → List ℕ → List Placement → Type 0
TakesEach s plan [] after = after ≡ plan
TakesEach s plan (r ∷ rs) after = (p : Placement) × IsEarliestFree s plan r p × TakesEach s (plan ++ p ∷ []) rs after

-- no unplaced request of a SINGLE, a MANY or an untouched ONEOF has a free start, and no absent AND is placed whole where each of its
-- requests takes its earliest free start
pub record IsSaturated (s : Parts) (plan : List Placement) : Type 0 where
  pub alone : (g : ℕ) (p : Placement) → (IsKind s Single g ⊎ IsKind s Many g) ⊎ IsUntouched s plan g → IsOf s g p.request.0
      → ¬ (Contains (requests_of plan) p.request.0) → ¬ (IsFree s plan p)
  pub whole : (g : ℕ) (after : List Placement) → IsAbsent s plan g → ¬ (TakesEach s plan (members s g) after)
