use Rattle.bound_checker.specs.Nets.{net_list}
use Rattle.plan_base.proofs.Growing.{IsGreatestSoFar}
use Rattle.bound_checker.proofs.nets.greatest_net.Given as goal

abbrev pub invariant-loop-place : goal.invariant-loop-place
invariant-loop-place l = IsGreatestSoFar (net_list l.nets) l.place l.greatest.value
