use Rattle.groups.proofs.Wide.{IsWide}
use Rattle.groups.proofs.taking.wide_sum.Given as goal

abbrev pub invariant-loop-price : goal.invariant-loop-price
invariant-loop-price l = IsWide l.prices l.price-index l.sum.value
