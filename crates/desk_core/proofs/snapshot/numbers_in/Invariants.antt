use Rattle.std.proofs.Common.{◌≡◌, [], take}
use Rattle.desk_core.specs.DeskSnapshot.{with_numbers_of, part_targets}
use Rattle.desk_core.proofs.snapshot.numbers_in.Given as goal

abbrev pub invariant-loop-group : goal.invariant-loop-group
invariant-loop-group l = l.numbers.keys ≡ with_numbers_of [] (part_targets (take l.group-index l.groups))
