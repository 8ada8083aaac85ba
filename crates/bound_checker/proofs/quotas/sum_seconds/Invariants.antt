use Rattle.std.proofs.Common.{take}
use Rattle.bound_checker.specs.Claims.{AreQuotaSums}
use Rattle.bound_checker.proofs.quotas.sum_seconds.Given as goal

abbrev pub invariant-loop-placement : goal.invariant-loop-placement
invariant-loop-placement l = AreQuotaSums l.snapshot (take l.placement-index l.plan) l.sums.items
