use Rattle.plan_base.proofs.Growing.{IsGrown}
use Rattle.groups.proofs.sums.price_sum.Given as goal

abbrev pub invariant-loop-price : goal.invariant-loop-price
invariant-loop-price l = IsGrown (λ c. c) l.prices l.price-index l.sum.value
