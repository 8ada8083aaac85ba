use Rattle.prices.proofs.Demanding.{IsDemandedUpTo}
use Rattle.prices.proofs.demands.add_demands.Given as goal

abbrev pub invariant-loop-place : goal.invariant-loop-place
invariant-loop-place l = IsDemandedUpTo l.snapshot l.taken l.fn.demands l.demands l.place
