use Rattle.std.proofs.Common.{◌≡◌, take}
use Rattle.std.specs.List.{flat_map}
use Rattle.desk_core.specs.DeskSnapshot.{with_numbers_of}
use Rattle.desk_core.proofs.snapshot.add_targets_of.Given as goal

abbrev pub invariant-loop-request : goal.invariant-loop-request
invariant-loop-request l = l.numbers.keys ≡ with_numbers_of l.fn.numbers.keys (flat_map (λ q. q.targets) (take l.request-index l.group.requests))
