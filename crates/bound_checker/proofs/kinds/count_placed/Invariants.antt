use Rattle.std.proofs.Common.{take}
use Rattle.bound_checker.specs.Claims.{AreGroupCounts}
use Rattle.bound_checker.proofs.kinds.count_placed.Given as goal

abbrev pub invariant-loop-placement : goal.invariant-loop-placement
invariant-loop-placement l = AreGroupCounts l.snapshot (take l.placement-index l.plan) l.counts.items
