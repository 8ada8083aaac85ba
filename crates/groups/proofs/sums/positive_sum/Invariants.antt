use Rattle.plan_base.specs.NetPrices.{positive}
use Rattle.plan_base.proofs.Growing.{IsGrown}
use Rattle.groups.proofs.sums.positive_sum.Given as goal

abbrev pub invariant-loop-price : goal.invariant-loop-price
invariant-loop-price l = IsGrown positive l.prices l.price-index l.sum.value
