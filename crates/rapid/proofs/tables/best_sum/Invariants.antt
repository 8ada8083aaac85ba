use Rattle.plan_base.specs.Bound.{IsBest}
use Rattle.bound_checker.specs.Summed.{IsSummed}
use Rattle.rapid.proofs.tables.best_sum.Given as goal

abbrev pub invariant-loop-telescope : goal.invariant-loop-telescope
invariant-loop-telescope l = IsSummed l.telescope (λ t. IsBest l.snapshot l.prices.0 t l.snapshot.first.0) 1440414720000000 l.sum.value
