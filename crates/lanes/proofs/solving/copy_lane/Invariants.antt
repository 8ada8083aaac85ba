use Rattle.std.proofs.Common.{pos, slice_index_or}
use Rattle.interval_solver.specs.Lanes.{lane}
use Rattle.prices.proofs.Setting.{IsSetUpTo}
use Rattle.lanes.proofs.solving.copy_lane.Given as goal

abbrev pub invariant-loop-row : goal.invariant-loop-row
invariant-loop-row g l = IsSetUpTo (pos 0) (λ i. slice_index_or (lane l.place l.from) i (pos 0)) l.fn.into l.into l.row
