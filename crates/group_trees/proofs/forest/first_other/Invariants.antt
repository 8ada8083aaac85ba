use Rattle.std.proofs.Common.{◌≡◌}
use Rattle.std.specs.List.{AllWithin}
use Rattle.plan_base.specs.declared.parts.Op.TheVariants.{Single}
use Rattle.group_trees.proofs.forest.first_other.Given as goal

abbrev pub invariant-loop-place : goal.invariant-loop-place
invariant-loop-place l = AllWithin (λ x. x.op ≡ Single) l.groups 0 l.place
