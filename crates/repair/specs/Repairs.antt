-- What the steps of a repair do to a plan, and the order in which starts are tried.
use Rattle.std.specs.Prelude.{◌≡◌, ◌≢◌, ℕ, ◌≤◌, ◌<◌, Bool, true, false, ◌==◌, ◌⊎◌, List, [], ◌∷◌, ◌++◌}
use Rattle.std.specs.Prelude.{length, slice_index_or, Option, Some, None, find, All, AllPairs, Contains}
use Rattle.plan_base.specs.declared.parts.Parts.{Parts}
use Rattle.plan_base.specs.declared.claim.Placement.{Placement}
use Rattle.plan_base.specs.Requests.{listed, place_of}
use Rattle.plan_base.specs.Starts.{worth_at}
use Rattle.plan_base.specs.Feasible.{requests_of, IsFeasible}
use Rattle.plan_base.specs.FeasibleSoFar.{IsFeasibleSoFar}
use Rattle.plan_base.specs.Repaired.{CanAddWhole, outside_ands, IsTriedBefore}
use Rattle.repair.specs.declared.ranked.Ranked.{Ranked}

-- the group at place g is added where it is an AND that can be added whole
abbrev pub AddsWhole : Parts → List Placement → List Placement → ℕ → List Placement → Type 0
AddsWhole s starts plan g after =
    ((firsts : List Placement) × CanAddWhole s starts plan g firsts × (after ≡ plan ++ firsts))
    ⊎ (((firsts : List Placement) → ¬ (CanAddWhole s starts plan g firsts)) × (after ≡ plan))

-- the start, if there is one, is added, or else there is none that can be
abbrev pub AddsFirst : Parts → List Placement → Option Placement → Bool → List Placement → Type 0
AddsFirst s plan first true after = (p : Placement) × (first ≡ Some p) × IsFeasibleSoFar s (plan ++ p ∷ []) × (after ≡ plan ++ p ∷ [])
AddsFirst s plan first false after = ((p : Placement) → first ≡ Some p → ¬ (IsFeasibleSoFar s (plan ++ p ∷ []))) × (after ≡ plan)

-- the first start of each of the requests in order is added
abbrev pub AddsFirsts : Parts → List Placement → List Placement → List ℕ → List Placement → Type 0
AddsFirsts s starts plan [] after = after ≡ plan
AddsFirsts s starts plan (r ∷ rs) after =
    (p : Placement) × (find (λ q. q.request.0 == r) starts ≡ Some p) × IsFeasibleSoFar s (plan ++ p ∷ []) × AddsFirsts s starts (plan ++ p ∷ []) rs after

-- the first starts of all of the requests are added, or none where they can't all be
abbrev pub AddsAllOrNone : Parts → List Placement → List Placement → List ℕ → List Placement → Type 0
AddsAllOrNone s starts plan rs after = AddsFirsts s starts plan rs after ⊎ (((added : List Placement) → ¬ (AddsFirsts s starts plan rs added)) × (after ≡ plan))

-- all of the requests are placed more, as far as that is feasible, or none
abbrev pub PlacesAllOrNone : Parts → List Placement → List ℕ → List Placement → Type 0
PlacesAllOrNone s plan rs after = (IsFeasibleSoFar s after × (requests_of after ≡ requests_of plan ++ rs)) ⊎ (after ≡ plan)

-- the start is added where it leaves the plan feasible
abbrev pub AddsOne : Parts → List Placement → Placement → List Placement → Type 0
AddsOne s plan p after = (IsFeasible s (plan ++ p ∷ []) × (after ≡ plan ++ p ∷ [])) ⊎ (¬ (IsFeasible s (plan ++ p ∷ [])) × (after ≡ plan))

-- the start that is ranked
abbrev pub start_of : Ranked → Placement
start_of x = record { request = x.request; telescope = x.telescope; slice = x.slice }

-- the start with its rank
abbrev pub rank_of : Parts → Placement → Ranked
rank_of s p = record { worth = record { 0 = worth_at s p }; request = p.request; telescope = p.telescope; slice = p.slice }

-- a comes before b, or both are ranks of one start
abbrev pub IsRankedBefore : Ranked → Ranked → Type 0
IsRankedBefore a b =
    (b.worth.0 < a.worth.0)
    ⊎ ((a.worth.0 ≡ b.worth.0) × ((a.request.0 < b.request.0)
    ⊎ ((a.request.0 ≡ b.request.0) × ((a.telescope.0 < b.telescope.0)
    ⊎ ((a.telescope.0 ≡ b.telescope.0) × (a.slice.0 ≤ b.slice.0))))))

-- what is noted before another start, if anything is, or else that one
abbrev pub IsEarlier : Option Ranked → Ranked → Option Ranked → Type 0
IsEarlier None x result = result ≡ Some x
IsEarlier (Some y) x result = ((result ≡ Some y) × IsRankedBefore y x) ⊎ ((result ≡ Some x) × IsRankedBefore x y)

-- p is outside every AND, and of all starts of its request the one that is tried first
pub record IsForemost (s : Parts) (starts : List Placement) (p : Placement) : Type 0 where
  pub one : Contains (outside_ands s starts) p
  pub first : (z : Placement) → Contains (outside_ands s starts) z → z.request.0 ≡ p.request.0 → (p ≡ z) ⊎ IsTriedBefore s p z

-- what is noted at a place is the rank of the start of the request there that is tried first, if it has one outside every AND
abbrev pub IsNoted : Parts → List Placement → ℕ → Option Ranked → Type 0
IsNoted s starts place None = (z : Placement) → Contains (outside_ands s starts) z → place_of s z.request.0 ≢ place
IsNoted s starts place (Some x) = (x ≡ rank_of s (start_of x)) × (place_of s x.request.0 ≡ place) × IsForemost s starts (start_of x)

-- at the place of each request stands what is noted of it
pub record AreNoted (s : Parts) (starts : List Placement) (noted : List (Option Ranked)) : Type 0 where
  pub count : length noted ≡ length (listed s)
  pub each : (place : ℕ) → place < length (listed s) → IsNoted s starts place (slice_index_or noted place None)

-- of each request that has starts outside every AND the one that is tried first, in the order in which they are tried
pub record AreOrdered (s : Parts) (starts ordered : List Placement) : Type 0 where
  pub each : All (IsForemost s starts) ordered
  pub complete : (z : Placement) → Contains (outside_ands s starts) z → (b : Placement) × Contains ordered b × (b.request.0 ≡ z.request.0)
  pub falling : AllPairs (IsTriedBefore s) ordered
