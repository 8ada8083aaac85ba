-- Which trees are a forest of a snapshot, and the first fault of those that aren't.
use Rattle.std.specs.Prelude.{◌≡◌, ◌≢◌, ℕ, ◌≤◌, ◌<◌, ◌==◌, ◌⊎◌, true, false, List, length, slice_get, Some, All, Contains, count_by, HoldsAt}
use Rattle.plan_base.specs.declared.parts.Parts.{Parts}
use Rattle.plan_base.specs.declared.parts.Op.TheVariants.{Single}
use Rattle.plan_base.specs.Requests.{IsKnown}
use Rattle.plan_base.specs.Verdict.{IsFirst}
use Rattle.group_trees.specs.declared.fault.ForestFault.{ForestFault}
use Rattle.group_trees.specs.declared.fault.ForestFault.TheVariants.{NotSingle, HasQuota, TreeDeep, TreeEmpty, TreeLeaf, NoMemory}
use Rattle.group_trees.specs.Trees.{Node, nodes_of, levels, is_full}
use Rattle.group_trees.specs.Choices.{all_leaves}

-- the most levels of a tree
abbrev pub most_tree_levels : ℕ
most_tree_levels = 16

-- the leaves of all trees, one tree after another
abbrev pub forest_leaves : List Node → List ℕ
forest_leaves trees = all_leaves (nodes_of trees)

-- how many of the leaves are request r
abbrev pub times : ℕ → List ℕ → ℕ
times r rs = count_by (λ x. x == r) rs

-- r is a leaf and no request, or a request that isn't a leaf exactly once
abbrev pub IsWrongLeaf : Parts → List ℕ → ℕ → Type 0
IsWrongLeaf s rs r = (Contains rs r × ¬ (IsKnown s r)) ⊎ (IsKnown s r × (times r rs ≢ 1))

-- P holds of what stands at place i
abbrev pub IsAt : {X : Type 0} → (X → Type 0) → List X → ℕ → Type 0
IsAt P xs i = (x : _) × (slice_get xs i ≡ Some x) × P x

-- each group of the snapshot is a SINGLE, and it has no quota
pub record AreSingles (s : Parts) : Type 0 where
  pub single : All (λ x. x.op ≡ Single) s.groups
  pub no_quota : length s.quotas ≡ 0

-- the snapshot is of SINGLEs without quotas, and each tree has 16 levels at most and no node without children; each request is a
-- leaf exactly once, and each leaf is a request
pub record IsForest (s : Parts) (trees : List Node) : Type 0 where
  pub singles : AreSingles s
  pub shallow : All (λ t. levels t ≤ most_tree_levels) trees
  pub full : All (λ t. is_full t ≡ true) trees
  pub leaves : (r : ℕ) → ¬ (IsWrongLeaf s (forest_leaves trees) r)

-- what each fault says of the snapshot and the trees
abbrev pub IsForestFault : Parts → List Node → ForestFault → Type 0
IsForestFault s trees (NotSingle group) = (g : ℕ) × IsFirst (IsAt (λ x. x.op ≢ Single) s.groups) g × HoldsAt (λ x. x.group ≡ group) s.groups g
IsForestFault s trees HasQuota = length s.quotas ≢ 0
IsForestFault s trees (TreeDeep tree) = IsFirst (IsAt (λ t. most_tree_levels < levels t) trees) tree
IsForestFault s trees (TreeEmpty tree) = IsFirst (IsAt (λ t. is_full t ≡ false) trees) tree
IsForestFault s trees (TreeLeaf request) = IsFirst (IsWrongLeaf s (forest_leaves trees)) request.0
IsForestFault s trees NoMemory = ⊥

-- the order in which the faults are looked for, each over all trees before the next
abbrev pub rank_of_fault : ForestFault → ℕ
rank_of_fault (NotSingle group) = 1
rank_of_fault HasQuota = 2
rank_of_fault (TreeDeep tree) = 3
rank_of_fault (TreeEmpty tree) = 4
rank_of_fault (TreeLeaf request) = 5
rank_of_fault NoMemory = 6

-- this is the first fault in the order
abbrev pub IsFirstFault : Parts → List Node → ForestFault → Type 0
IsFirstFault s trees fault = IsForestFault s trees fault × ((other : ForestFault) → rank_of_fault other < rank_of_fault fault → ¬ (IsForestFault s trees other))
