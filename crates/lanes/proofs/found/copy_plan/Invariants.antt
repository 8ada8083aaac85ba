use Rattle.std.proofs.Common.{◌≡◌, take, vec_capacity}
use Rattle.lanes.proofs.found.copy_plan.Given as goal

abbrev pub invariant-loop-placement : goal.invariant-loop-placement
invariant-loop-placement l = (l.into.items ≡ take l.placement-index l.from) × (vec_capacity l.into ≡ vec_capacity l.fn.into)
