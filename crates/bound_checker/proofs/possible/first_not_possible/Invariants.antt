use Rattle.std.specs.List.{AllWithin}
use Rattle.plan_base.specs.Starts.{IsPossibleStart}
use Rattle.bound_checker.proofs.possible.first_not_possible.Given as goal

abbrev pub invariant-loop-index : goal.invariant-loop-index
invariant-loop-index l = AllWithin (IsPossibleStart l.snapshot) l.plan 0 l.index
