-- Which plans are feasible for a forest.
use Rattle.std.specs.Prelude.{ℕ, Bool, ◌==◌, List, filter, All}
use Rattle.std.specs.List.{list_any}
use Rattle.plan_base.specs.declared.parts.Parts.{Parts}
use Rattle.plan_base.specs.declared.claim.Placement.{Placement}
use Rattle.plan_base.specs.Feasible.{requests_of, IsEachPossible, IsEachOnce, IsDisjoint}
use Rattle.group_trees.specs.Trees.{Node}
use Rattle.group_trees.specs.Choices.{leaves, IsTreeChoice}

-- r is one of the requests
abbrev pub is_placed : List ℕ → ℕ → Bool
is_placed rs r = list_any (λ x. x == r) rs

-- the leaves of a tree that are among the requests
abbrev pub placed_leaves : List ℕ → Node → List ℕ
placed_leaves rs t = filter (is_placed rs) (leaves t)

-- the tree allows what is placed of it
abbrev pub IsAllowed : List Placement → Node → Type 0
IsAllowed plan t = IsTreeChoice t (placed_leaves (requests_of plan) t)

-- the rules of a plan, one a field: each placement is a possible start, no request is placed twice, no two placements share a slice, and each
-- tree allows what is placed of it
pub record IsForestFeasible (s : Parts) (trees : List Node) (plan : List Placement) : Type 0 where
  pub possible : IsEachPossible s plan
  pub once : IsEachOnce plan
  pub disjoint : IsDisjoint s plan
  pub allowed : All (IsAllowed plan) trees
