-- Starts that share no slice with a plan, and the earliest of them.
use Rattle.std.specs.Prelude.{◌≡◌, ℕ, ◌+◌, ◌≤◌, ◌<◌, ◌⊎◌, List, Option, Some, None, All}
use Rattle.plan_base.specs.declared.parts.Parts.{Parts}
use Rattle.plan_base.specs.declared.claim.Placement.{Placement}
use Rattle.plan_base.specs.Starts.{IsPossibleStart, ShareSlice}
use Rattle.plan_base.specs.Saturated.{IsNoLater}
use Rattle.snapshot_starts.specs.declared.run.Run.{Run}
use Rattle.snapshot_starts.specs.Runs.{start_at}

-- the start shares no slice with a placement of the plan
abbrev pub IsApart : Parts → List Placement → Placement → Type 0
IsApart s plan p = All (λ q. ¬ (ShareSlice s p q)) plan

-- k is a slice of the run
abbrev pub HasSlice : Run → ℕ → Type 0
HasSlice run k = (run.first.0 ≤ k) × (k < run.first.0 + run.count)

-- the run has a slice, and each of its slices is a possible start
pub record IsPossibleRun (s : Parts) (run : Run) : Type 0 where
  pub some : 0 < run.count
  pub possible : (k : ℕ) → HasSlice run k → IsPossibleStart s (start_at run k)

-- no start of the run before slice `before` is apart from the plan
abbrev pub HasNoApart : Parts → List Placement → Run → ℕ → Type 0
HasNoApart s plan run before = (k : ℕ) → HasSlice run k → k < before → ¬ (IsApart s plan (start_at run k))

-- k is the first slice of the run at which a start is apart from the plan, and lies before slice `before`
pub record IsFirstApart (s : Parts) (plan : List Placement) (run : Run) (before k : ℕ) : Type 0 where
  pub has : HasSlice run k
  pub below : k < before
  pub apart : IsApart s plan (start_at run k)
  pub first : (j : ℕ) → HasSlice run j → j < k → ¬ (IsApart s plan (start_at run j))

-- where a start has to begin before to be better than this one
abbrev pub limit_of : Option Placement → ℕ
limit_of None = 4294967295
limit_of (Some p) = p.slice.0

-- the first start of the run that is apart from the plan, if it begins before the best one, or else that one
abbrev pub IsBetter : Parts → List Placement → Run → Option Placement → Option Placement → Type 0
IsBetter s plan run best result =
    ((result ≡ best) × HasNoApart s plan run (limit_of best)) ⊎ ((k : ℕ) × (result ≡ Some (start_at run k)) × IsFirstApart s plan run (limit_of best) k)

-- no possible start of request r is apart from the plan
abbrev pub HasNoneApart : Parts → List Placement → ℕ → Type 0
HasNoneApart s plan r = (q : Placement) → q.request.0 ≡ r → IsPossibleStart s q → ¬ (IsApart s plan q)

-- the earliest possible start of request r that is apart from the plan, on the lowest telescope among equals
pub record IsEarliestApart (s : Parts) (plan : List Placement) (r : ℕ) (p : Placement) : Type 0 where
  pub same_request : p.request.0 ≡ r
  pub possible : IsPossibleStart s p
  pub apart : IsApart s plan p
  pub earliest : (q : Placement) → q.request.0 ≡ r → IsPossibleStart s q → IsApart s plan q → IsNoLater p q
