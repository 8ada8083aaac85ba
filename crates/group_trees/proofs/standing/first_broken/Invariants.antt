use Rattle.std.proofs.Common.{◌≡◌, true}
use Rattle.std.specs.List.{AllWithin}
use Rattle.group_trees.specs.Standings.{keeps, is_flagged}
use Rattle.group_trees.specs.Built.{snapshot_of, trees_of}
use Rattle.group_trees.proofs.standing.first_broken.Given as goal

abbrev pub invariant-loop-index : goal.invariant-loop-index
invariant-loop-index l = AllWithin (λ t. keeps (is_flagged (snapshot_of l.forest) l.flags) t ≡ true) (trees_of l.forest) 0 l.index
