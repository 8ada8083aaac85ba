use Rattle.std.proofs.Common.{map}
use Rattle.plan_base.specs.Requests.{members}
use Rattle.plan_base.specs.Bound.{net_price}
use Rattle.plan_base.proofs.Growing.{IsGrown}
use Rattle.explain.proofs.choice.group_sum.Given as goal

abbrev pub invariant-loop-request : goal.invariant-loop-request
invariant-loop-request l = IsGrown (λ z. z) (map (net_price l.snapshot l.prices.0 l.quota_prices.0) (members l.snapshot l.group)) l.request-index l.sum.value
