use Rattle.bound_checker.specs.Summed.{IsSummed}
use Rattle.group_trees.specs.Rebates.{IsRebateAt}
use Rattle.group_trees.specs.Built.{snapshot_of, trees_of}
use Rattle.group_trees.proofs.check.tree_rebates.Given as goal

abbrev pub invariant-loop-tree : goal.invariant-loop-tree
invariant-loop-tree l = IsSummed l.tree (IsRebateAt (snapshot_of l.forest) l.prices.0 (trees_of l.forest)) 1024000000000000 l.sum.value
