use Rattle.std.proofs.Common.{◌≡◌, ◌&&◌, ◌+◌, ◌≤◌, drop}
use Rattle.group_trees.specs.Trees.{all_seen}
use Rattle.group_trees.specs.Standings.{touched_count, all_keep, is_flagged}
use Rattle.group_trees.proofs.standing.+standing.Given as goal

abbrev pub invariant-placed_of_all-loop-tree : goal.invariant-placed_of_all-loop-tree
invariant-placed_of_all-loop-tree l =
    ((l.all.kept && all_keep (is_flagged l.snapshot l.flags) (all_seen (drop l.tree-index l.tree-items)))
    ≡ all_keep (is_flagged l.snapshot l.flags) (all_seen l.tree-items))
    × (l.all.touched + touched_count (is_flagged l.snapshot l.flags) (all_seen (drop l.tree-index l.tree-items))
    ≡ touched_count (is_flagged l.snapshot l.flags) (all_seen l.tree-items))
    × (l.all.touched ≤ l.tree-index)
