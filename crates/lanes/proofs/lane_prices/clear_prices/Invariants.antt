use Rattle.prices.proofs.Setting.{IsSetUpTo}
use Rattle.lanes.proofs.lane_prices.clear_prices.Given as goal

abbrev pub invariant-loop-place : goal.invariant-loop-place
invariant-loop-place g l = IsSetUpTo l.price (λ i. l.price) l.fn.prices l.prices l.place
