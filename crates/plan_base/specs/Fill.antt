-- The greedy plan: passes over the groups by falling worth, until one adds nothing.
use Rattle.std.specs.Prelude.{◌≡◌, ◌≢◌, ℕ, ◌<◌, max, ◌⊎◌, List, [], ◌∷◌, ◌++◌, length, map, slice_index_or, All, AllPairs, Contains, sum_by, fold}
use Rattle.plan_base.specs.declared.parts.Parts.{Parts}
use Rattle.plan_base.specs.declared.parts.GroupPart.{GroupPart}
use Rattle.plan_base.specs.declared.parts.Op.{Op}
use Rattle.plan_base.specs.declared.parts.Op.TheVariants.{Single, Many, OneOf, And}
use Rattle.plan_base.specs.declared.claim.Placement.{Placement}
use Rattle.plan_base.specs.Requests.{request_value, IsOf, IsKind, members}
use Rattle.plan_base.specs.Feasible.{requests_of}
use Rattle.plan_base.specs.Saturated.{HasNoFree, HasNonePlaced, IsUntouched, IsAbsent, IsEarliestFree, TakesEach}

-- the sum of the values of a group's requests, for a ONEOF the greatest of them
abbrev pub worth_by_kind : Op → List ℕ → ℕ
worth_by_kind OneOf values = fold max 0 values
worth_by_kind _ values = sum_by (λ v. v) values

-- the worth of a group by its values
abbrev pub worth_of_group : GroupPart → ℕ
worth_of_group x = worth_by_kind x.op (map (λ q. q.value) x.requests)

-- the worth of the group at place g
abbrev pub group_worth : Parts → ℕ → ℕ
group_worth s g = slice_index_or (map worth_of_group s.groups) g 0

-- all places of groups, by falling worth, then group
pub record IsFillOrder (s : Parts) (order : List ℕ) : Type 0 where
  pub places : All (λ g. g < length s.groups) order
  pub complete : (g : ℕ) → g < length s.groups → Contains order g
  pub falling : AllPairs (λ a b. (group_worth s b < group_worth s a) ⊎ ((group_worth s a ≡ group_worth s b) × (a < b))) order

-- all requests of the group at place g, by falling value, then number
pub record IsMemberOrder (s : Parts) (g : ℕ) (order : List ℕ) : Type 0 where
  pub members : All (IsOf s g) order
  pub complete : (r : ℕ) → IsOf s g r → Contains order r
  pub falling : AllPairs (λ a b. (request_value s b < request_value s a) ⊎ ((request_value s a ≡ request_value s b) × (a < b))) order

-- request r gets its earliest free start, unless it is placed or has none
abbrev pub TriesOne : Parts → List Placement → ℕ → List Placement → Type 0
TriesOne s plan r after =
    (Contains (requests_of plan) r × (after ≡ plan))
    ⊎ (¬ (Contains (requests_of plan) r) × (((p : Placement) × IsEarliestFree s plan r p × (after ≡ plan ++ p ∷ [])) ⊎ (HasNoFree s plan r × (after ≡ plan))))

-- the requests are tried one after another
abbrev pub TriesEach : Parts → List Placement → List ℕ → List Placement → Type 0
TriesEach s plan [] after = after ≡ plan
TriesEach s plan (r ∷ rs) after = (next : List Placement) × TriesOne s plan r next × TriesEach s next rs after

-- the requests are tried in order until one is placed
abbrev pub TriesUntilOne : Parts → List Placement → List ℕ → List Placement → Type 0
TriesUntilOne s plan [] after = after ≡ plan
TriesUntilOne s plan (r ∷ rs) after =
    ((p : Placement) × IsEarliestFree s plan r p × (after ≡ plan ++ p ∷ [])) ⊎ (HasNoFree s plan r × TriesUntilOne s plan rs after)

-- all of the requests take their earliest free starts, or none does
abbrev pub TakesAllOrNone : Parts → List Placement → List ℕ → List Placement → Type 0
TakesAllOrNone s plan rs after = TakesEach s plan rs after ⊎ (((taken : List Placement) → ¬ (TakesEach s plan rs taken)) × (after ≡ plan))

-- what a pass does at the group at place g
pub record VisitsGroup (s : Parts) (plan : List Placement) (g : ℕ) (after : List Placement) : Type 0 where
  pub alone : IsKind s Single g ⊎ IsKind s Many g → TriesEach s plan (members s g) after
  pub untouched : IsUntouched s plan g → (order : List ℕ) × IsMemberOrder s g order × TriesUntilOne s plan order after
  pub absent : IsAbsent s plan g → TakesAllOrNone s plan (members s g) after
  pub served : IsKind s OneOf g ⊎ IsKind s And g → ¬ (HasNonePlaced s plan g) → after ≡ plan

-- a pass visits these groups one after another
abbrev pub VisitsEach : Parts → List Placement → List ℕ → List Placement → Type 0
VisitsEach s plan [] after = after ≡ plan
VisitsEach s plan (g ∷ gs) after = (next : List Placement) × VisitsGroup s plan g next × VisitsEach s next gs after

-- one pass over all groups in their order
abbrev pub IsPass : Parts → List Placement → List Placement → Type 0
IsPass s plan after = (order : List ℕ) × IsFillOrder s order × VisitsEach s plan order after

-- passes lead from one plan to the next, and the last adds nothing
abbrev pub PassesTo : Parts → List Placement → List (List Placement) → List Placement → Type 0
PassesTo s plan [] after = (after ≡ plan) × IsPass s plan plan
PassesTo s plan (next ∷ rest) after = IsPass s plan next × (next ≢ plan) × PassesTo s next rest after

-- the plan that passes make of a plan, repeated until one adds nothing
abbrev pub IsFilled : Parts → List Placement → List Placement → Type 0
IsFilled s plan after = (passes : List (List Placement)) × PassesTo s plan passes after

-- the empty plan, filled
abbrev pub IsGreedy : Parts → List Placement → Type 0
IsGreedy s plan = IsFilled s [] plan
