-- The primal heuristic: a feasible plan made of the starts that prices give.
use Rattle.std.specs.Prelude.{◌≡◌, ℕ, ℤ, ◌<◌, Bool, not, ◌==◌, ◌⊎◌, List, [], ◌∷◌, ◌++◌, map, Option, Some, AllPairs, filter, find, IsPermutation}
use Rattle.std.specs.List.{enumerate_from}
use Rattle.std.specs.Ordering.{nat_cmp, is_lt, ordering_then}
use Rattle.plan_base.specs.declared.parts.Parts.{Parts}
use Rattle.plan_base.specs.declared.parts.Op.TheVariants.{And}
use Rattle.plan_base.specs.declared.claim.Placement.{Placement}
use Rattle.plan_base.specs.Operators.{is_and}
use Rattle.plan_base.specs.Requests.{group_of, IsKind, members}
use Rattle.plan_base.specs.Starts.{worth_at, IsListedBefore}
use Rattle.plan_base.specs.Feasible.{IsFeasible}
use Rattle.plan_base.specs.Fill.{IsFilled}
use Rattle.plan_base.specs.Canonical.{IsCanonicalStarts}
use Rattle.plan_base.specs.Round.{op_at}

-- the first start of each of the requests that has one
abbrev pub first_starts : List Placement → List ℕ → List (Option Placement)
first_starts starts rs = map (λ r. find (λ p. p.request.0 == r) starts) rs

-- the AND at place g can be added whole by the first start of each member
pub record CanAddWhole (s : Parts) (starts plan : List Placement) (g : ℕ) (firsts : List Placement) : Type 0 where
  pub kind : IsKind s And g
  pub each_first : map (λ p. Some p) firsts ≡ first_starts starts (members s g)
  pub feasible : IsFeasible s (plan ++ firsts)

-- the groups at these places are added where they are an AND that can be added whole
abbrev pub AddsWholes : Parts → List Placement → List Placement → List ℕ → List Placement → Type 0
AddsWholes s starts plan [] after = after ≡ plan
AddsWholes s starts plan (g ∷ gs) after =
    ((firsts : List Placement) × CanAddWhole s starts plan g firsts × AddsWholes s starts (plan ++ firsts) gs after)
    ⊎ (((firsts : List Placement) → ¬ (CanAddWhole s starts plan g firsts)) × AddsWholes s starts plan gs after)

-- the places of all groups, in order
abbrev pub group_places : Parts → List ℕ
group_places s = map (λ x. x.0) (enumerate_from 0 s.groups)

-- the starts of requests outside every AND
abbrev pub outside_ands : Parts → List Placement → List Placement
outside_ands s starts = filter (λ p. not (is_and (op_at s (group_of s p.request.0)))) starts

-- a is tried before b: by falling worth, then request, telescope and slice
abbrev pub IsTriedBefore : Parts → Placement → Placement → Type 0
IsTriedBefore s a b =
    (worth_at s b < worth_at s a) ⊎ ((worth_at s a ≡ worth_at s b) × ((a.request.0 < b.request.0) ⊎ ((a.request ≡ b.request) × IsListedBefore a b)))

-- each start that leaves the plan feasible is added
abbrev pub AddsEach : Parts → List Placement → List Placement → List Placement → Type 0
AddsEach s plan [] after = after ≡ plan
AddsEach s plan (p ∷ ps) after =
    (IsFeasible s (plan ++ p ∷ []) × AddsEach s (plan ++ p ∷ []) ps after)
    ⊎ (¬ (IsFeasible s (plan ++ p ∷ [])) × AddsEach s plan ps after)

-- the plan made of these starts: whole ANDs by group, then other starts by falling worth, then filled
pub record IsRepairedFrom (s : Parts) (starts plan : List Placement) : Type 0 where
  pub wholes : List Placement
  pub ordered : List Placement
  pub added : List Placement
  pub adds_wholes : AddsWholes s starts [] (group_places s) wholes
  pub same : IsPermutation (outside_ands s starts) ordered
  pub falling : AllPairs (IsTriedBefore s) ordered
  pub adds_each : AddsEach s wholes ordered added
  pub filled : IsFilled s added plan

-- the plan made of the starts that these prices give
abbrev pub IsRepaired : Parts → List ℤ → List Placement → Type 0
IsRepaired s prices plan = (starts : List Placement) × IsCanonicalStarts s prices starts × IsRepairedFrom s starts plan

-- p is before q by telescope, then slice
abbrev pub is_listed_before : Placement → Placement → Bool
is_listed_before p q = is_lt (ordering_then (nat_cmp p.telescope.0 q.telescope.0) (nat_cmp p.slice.0 q.slice.0))

-- the placements of a plan, by telescope, then slice
pub record IsListing (plan listing : List Placement) : Type 0 where
  pub same : IsPermutation plan listing
  pub rising : AllPairs IsListedBefore listing
