use Rattle.std.proofs.Common.{◌≡◌, ◌++◌, drop}
use Rattle.std.specs.List.{zip}
use Rattle.desk_core.specs.Holds.{needs_of}
use Rattle.desk_core.proofs.holding.needs_of.Given as goal

abbrev pub invariant-loop-i : goal.invariant-loop-i
invariant-loop-i l = l.needs.items ++ needs_of l.document (zip (drop l.i l.requests) (drop l.i l.wanted)) ≡ needs_of l.document (zip l.requests l.wanted)
