use Rattle.std.proofs.Common.{take}
use Rattle.explain.specs.Left.{AreKept, Blocks}
use Rattle.explain.proofs.blocking.blocking_of.Given as goal

abbrev pub invariant-loop-placement : goal.invariant-loop-placement
invariant-loop-placement l = AreKept (Blocks l.snapshot l.openings.request.0) (take l.placement-index l.plan) l.placements.items
