use Rattle.std.proofs.Common.{◌≡◌, drop}
use Rattle.group_trees.specs.Trees.{all_seen, are_full}
use Rattle.group_trees.proofs.levels.+full.Given as goal

abbrev pub invariant-are_full-loop-tree : goal.invariant-are_full-loop-tree
invariant-are_full-loop-tree l = are_full (all_seen l.tree-items) ≡ are_full (all_seen (drop l.tree-index l.tree-items))
