use Rattle.std.proofs.Common.{◌≡◌, ◌++◌, take}
use Rattle.explain.specs.Told.{lines_of_lefts}
use Rattle.explain.proofs.told.add_lefts.Given as goal

abbrev pub invariant-loop-left : goal.invariant-loop-left
invariant-loop-left l = l.out.items ≡ l.initial.out.items ++ lines_of_lefts l.value (take l.left-index l.lefts)
