-- Trees of requests, as contracts see them.
use Rattle.std.specs.Prelude.{ℕ, suc, max, Bool, true, false, ◌&&◌, List, [], ◌∷◌, map}
use Rattle.group_trees.specs.declared.tree.Tree.{Tree, fold-Tree}
use Rattle.group_trees.specs.declared.tree.Tree.TheOpen.{Tree-F}

mutual
  -- a tree: a leaf, by the number of its request, or a node with children, of which any, at most one, or all or none are placed
  pub data Node : Type 0 where
    leaf : ℕ → Node
    many : Nodes → Node
    one_of : Nodes → Node
    all_of : Nodes → Node

  -- children, in their order
  pub data Nodes : Type 0 where
    none : Nodes
    and_then : Node → Nodes → Nodes

-- the nodes of a list, in its order
abbrev pub nodes_of : List Node → Nodes
nodes_of [] = none
nodes_of (t ∷ ts) = and_then t (nodes_of ts)

-- one level, with each child already seen as its node
abbrev pub seen_level : Tree-F Node → Node
seen_level (Tree-F.Leaf request) = leaf request.0
seen_level (Tree-F.Many children) = many (nodes_of children.items)
seen_level (Tree-F.OneOf children) = one_of (nodes_of children.items)
seen_level (Tree-F.And children) = all_of (nodes_of children.items)

-- what a tree is
abbrev pub seen : Tree → Node
seen = fold-Tree Node seen_level

-- what each of the trees is, in their order
abbrev pub trees_seen : List Tree → List Node
trees_seen ts = map seen ts

-- the same trees, as the nodes of a list
abbrev pub all_seen : List Tree → Nodes
all_seen ts = nodes_of (trees_seen ts)

-- how many levels a tree has; a leaf alone is one
abbrev mutual
  pub levels : Node → ℕ
  levels (leaf r) = 1
  levels (many ts) = suc (most_levels ts)
  levels (one_of ts) = suc (most_levels ts)
  levels (all_of ts) = suc (most_levels ts)

  -- the most levels that one of the trees has
  pub most_levels : Nodes → ℕ
  most_levels none = 0
  most_levels (and_then t ts) = max (levels t) (most_levels ts)

-- there is a child
abbrev pub has_child : Nodes → Bool
has_child none = false
has_child (and_then t ts) = true

-- each node has a child
abbrev mutual
  pub is_full : Node → Bool
  is_full (leaf r) = true
  is_full (many ts) = has_child ts && are_full ts
  is_full (one_of ts) = has_child ts && are_full ts
  is_full (all_of ts) = has_child ts && are_full ts

  -- each of the nodes is so
  pub are_full : Nodes → Bool
  are_full none = true
  are_full (and_then t ts) = is_full t && are_full ts
