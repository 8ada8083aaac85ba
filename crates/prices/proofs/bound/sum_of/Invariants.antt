use Rattle.prices.proofs.Summing.{IsSummed}
use Rattle.prices.proofs.bound.sum_of.Given as goal

abbrev pub invariant-loop-number : goal.invariant-loop-number
invariant-loop-number l = IsSummed l.numbers l.number-index l.sum.value
