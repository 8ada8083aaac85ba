use Rattle.plan_base.specs.Bound.{IsQuotaPart}
use Rattle.bound_checker.specs.Summed.{IsSummed}
use Rattle.bound_checker.proofs.bound.quota_sum.Given as goal

abbrev pub invariant-loop-quota : goal.invariant-loop-quota
invariant-loop-quota l = IsSummed l.quota (IsQuotaPart l.snapshot l.quota_prices.0) 20000000000000 l.sum.value
