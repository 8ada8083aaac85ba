use Rattle.std.proofs.Common.{◌≡◌, nat_le, drop}
use Rattle.group_trees.specs.Trees.{all_seen, most_levels}
use Rattle.group_trees.proofs.levels.+levels.Given as goal

abbrev pub invariant-are_within-loop-tree : goal.invariant-are_within-loop-tree
invariant-are_within-loop-tree l = nat_le (most_levels (all_seen l.tree-items)) l.most ≡ nat_le (most_levels (all_seen (drop l.tree-index l.tree-items))) l.most
