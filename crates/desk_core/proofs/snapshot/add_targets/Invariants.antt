use Rattle.std.proofs.Common.{◌≡◌, take}
use Rattle.desk_core.specs.DeskSnapshot.{with_numbers_of}
use Rattle.desk_core.proofs.snapshot.add_targets.Given as goal

abbrev pub invariant-loop-target : goal.invariant-loop-target
invariant-loop-target l = l.numbers.keys ≡ with_numbers_of l.fn.numbers.keys (take l.target-index l.targets)
