use Rattle.std.proofs.Common.{◌≤◌}
use Rattle.std.specs.List.{AllWithin}
use Rattle.group_trees.specs.Trees.{levels, trees_seen}
use Rattle.group_trees.proofs.levels.first_deep.Given as goal

abbrev pub invariant-loop-index : goal.invariant-loop-index
invariant-loop-index l = AllWithin (λ t. levels t ≤ 16) (trees_seen l.trees) 0 l.index
