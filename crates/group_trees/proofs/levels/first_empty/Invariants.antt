use Rattle.std.proofs.Common.{◌≡◌, true}
use Rattle.std.specs.List.{AllWithin}
use Rattle.group_trees.specs.Trees.{is_full, trees_seen}
use Rattle.group_trees.proofs.levels.first_empty.Given as goal

abbrev pub invariant-loop-index : goal.invariant-loop-index
invariant-loop-index l = AllWithin (λ t. is_full t ≡ true) (trees_seen l.trees) 0 l.index
