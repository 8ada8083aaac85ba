use Rattle.std.proofs.Common.{drop}
use Rattle.plan_base.specs.Bound.{price}
use Rattle.group_trees.specs.Trees.{all_seen}
use Rattle.group_trees.specs.Choices.{IsUnion, IsOfOne, IsWhole}
use Rattle.group_trees.specs.Rebates.{IsGreatest}
use Rattle.group_trees.specs.Pairs.{IsSome, IsPair}
use Rattle.group_trees.proofs.rebate.+rebate.Given as goal

abbrev pub invariant-union_of-loop-index : goal.invariant-union_of-loop-index
invariant-union_of-loop-index l = IsPair (IsUnion (all_seen (drop l.index l.children.items))) (price l.snapshot l.prices.0) l.sum

abbrev pub invariant-best_child-loop-index : goal.invariant-best_child-loop-index
invariant-best_child-loop-index l = IsGreatest (IsSome (IsOfOne (all_seen (drop l.index l.children.items)))) (price l.snapshot l.prices.0) l.best.value

abbrev pub invariant-whole_of-loop-index : goal.invariant-whole_of-loop-index
invariant-whole_of-loop-index l = IsGreatest (IsWhole (all_seen (drop l.index l.children.items))) (price l.snapshot l.prices.0) l.sum.value
