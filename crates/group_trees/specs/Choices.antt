-- The leaves of a tree, and which sets of them it allows.
use Rattle.std.specs.Prelude.{◌≡◌, ◌≢◌, ℕ, ◌⊎◌, List, [], ◌∷◌, ◌++◌}
use Rattle.group_trees.specs.Trees.{Node, leaf, many, one_of, all_of, Nodes, none, and_then}

-- the requests that are leaves, from the first to the last
abbrev mutual
  pub leaves : Node → List ℕ
  leaves (leaf r) = r ∷ []
  leaves (many ts) = all_leaves ts
  leaves (one_of ts) = all_leaves ts
  leaves (all_of ts) = all_leaves ts

  -- the same of each node
  pub all_leaves : Nodes → List ℕ
  all_leaves none = []
  all_leaves (and_then t ts) = leaves t ++ all_leaves ts

-- a choice is a set of leaves, listed in the order in which the tree has them
abbrev mutual
  -- the tree allows the choice: of a leaf, the empty set and the leaf; of a MANY, unions of choices of its children; of a
  -- ONEOF, a choice of at most one child; of an AND, the empty set, and unions of one nonempty choice of each child
  pub IsTreeChoice : Node → List ℕ → Type 0
  IsTreeChoice (leaf r) choice = (choice ≡ []) ⊎ (choice ≡ r ∷ [])
  IsTreeChoice (many ts) choice = IsUnion ts choice
  IsTreeChoice (one_of ts) choice = (choice ≡ []) ⊎ IsOfOne ts choice
  IsTreeChoice (all_of ts) choice = (choice ≡ []) ⊎ IsWhole ts choice

  -- a union of one choice of each node
  pub IsUnion : Nodes → List ℕ → Type 0
  IsUnion none choice = choice ≡ []
  IsUnion (and_then t ts) choice = (first rest : List ℕ) × (choice ≡ first ++ rest) × IsTreeChoice t first × IsUnion ts rest

  -- a choice of one of the nodes
  pub IsOfOne : Nodes → List ℕ → Type 0
  IsOfOne none choice = ⊥
  IsOfOne (and_then t ts) choice = IsTreeChoice t choice ⊎ IsOfOne ts choice

  -- a union of one nonempty choice of each node
  pub IsWhole : Nodes → List ℕ → Type 0
  IsWhole none choice = choice ≡ []
  IsWhole (and_then t ts) choice = (first rest : List ℕ) × (choice ≡ first ++ rest) × (first ≢ []) × IsTreeChoice t first × IsWhole ts rest
