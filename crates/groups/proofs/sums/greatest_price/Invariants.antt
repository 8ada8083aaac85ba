use Rattle.plan_base.proofs.Growing.{IsGreatestSoFar}
use Rattle.groups.proofs.sums.greatest_price.Given as goal

abbrev pub invariant-loop-price : goal.invariant-loop-price
invariant-loop-price l = IsGreatestSoFar l.prices l.price-index l.greatest.value
