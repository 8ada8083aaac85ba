use Rattle.std.proofs.Common.{◌≡◌, ◌++◌, ℕ, List, length, take}
use Rattle.plan_base.specs.Requests.{listed}
use Rattle.group_trees.specs.Trees.{all_seen}
use Rattle.group_trees.specs.Choices.{all_leaves}
use Rattle.group_trees.specs.Tallies.{IsTally}
use Rattle.group_trees.proofs.leaves.+tally.Given as goal

abbrev pub invariant-tally_all-loop-tree : goal.invariant-tally_all-loop-tree
invariant-tally_all-loop-tree l =
    (length l.tally.flags.items ≡ length (listed l.snapshot))
    × ((rs : List ℕ) → IsTally l.snapshot rs l.initial.tally → IsTally l.snapshot (rs ++ all_leaves (all_seen (take l.tree-index l.tree-items))) l.tally)
