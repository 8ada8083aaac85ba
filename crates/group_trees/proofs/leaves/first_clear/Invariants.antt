use Rattle.std.proofs.Common.{◌≡◌, true}
use Rattle.std.specs.List.{AllWithin}
use Rattle.group_trees.proofs.leaves.first_clear.Given as goal

abbrev pub invariant-loop-place : goal.invariant-loop-place
invariant-loop-place l = AllWithin (λ flag. flag ≡ true) l.flags 0 l.place
