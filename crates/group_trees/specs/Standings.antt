-- Whether a tree allows what is placed of it, node by node.
use Rattle.std.specs.Prelude.{◌≡◌, ℕ, suc, ◌+◌, ◌==◌, ◌&&◌, ◌||◌, nat_le, nat_lt, Bool, true, false, cond, List, length, slice_index_or}
use Rattle.plan_base.specs.declared.parts.Parts.{Parts}
use Rattle.plan_base.specs.Requests.{listed, place_of, IsKnown}
use Rattle.group_trees.specs.Trees.{Node, leaf, many, one_of, all_of, Nodes, none, and_then}
use Rattle.group_trees.specs.Plans.{is_placed}

-- how many nodes there are
abbrev pub node_count : Nodes → ℕ
node_count none = 0
node_count (and_then t ts) = suc (node_count ts)

-- a leaf that passes the test is touched, and another node with a child that is
abbrev mutual
  pub is_touched : (ℕ → Bool) → Node → Bool
  is_touched p (leaf r) = p r
  is_touched p (many ts) = nat_lt 0 (touched_count p ts)
  is_touched p (one_of ts) = nat_lt 0 (touched_count p ts)
  is_touched p (all_of ts) = nat_lt 0 (touched_count p ts)

  -- how many of the nodes are touched
  pub touched_count : (ℕ → Bool) → Nodes → ℕ
  touched_count p none = 0
  touched_count p (and_then t ts) = cond (is_touched p t) 1 0 + touched_count p ts

-- the node allows the leaves that pass the test
abbrev mutual
  pub keeps : (ℕ → Bool) → Node → Bool
  keeps p (leaf r) = true
  keeps p (many ts) = all_keep p ts
  keeps p (one_of ts) = all_keep p ts && nat_le (touched_count p ts) 1
  keeps p (all_of ts) = all_keep p ts && ((touched_count p ts == 0) || (touched_count p ts == node_count ts))

  -- each of the nodes does
  pub all_keep : (ℕ → Bool) → Nodes → Bool
  all_keep p none = true
  all_keep p (and_then t ts) = keeps p t && all_keep p ts

-- the flag at the place of request r is set
abbrev pub is_flagged : Parts → List Bool → ℕ → Bool
is_flagged s flags r = slice_index_or flags (place_of s r) false

-- the flag at the place of each request of the snapshot tells whether it is among the requests rs
pub record AreFlags (s : Parts) (rs : List ℕ) (flags : List Bool) : Type 0 where
  pub count : length flags ≡ length (listed s)
  pub each : (r : ℕ) → IsKnown s r → is_flagged s flags r ≡ is_placed rs r
