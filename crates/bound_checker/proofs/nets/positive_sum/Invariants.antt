use Rattle.plan_base.specs.NetPrices.{positive}
use Rattle.bound_checker.specs.Nets.{net_list}
use Rattle.plan_base.proofs.Growing.{IsGrown}
use Rattle.bound_checker.proofs.nets.positive_sum.Given as goal

abbrev pub invariant-loop-place : goal.invariant-loop-place
invariant-loop-place l = IsGrown positive (net_list l.nets) l.place l.sum.value
