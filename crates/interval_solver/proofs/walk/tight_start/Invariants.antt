use Rattle.std.proofs.Common.{◌≡◌, ℕ, ◌<◌, slice_index_or}
use Rattle.interval_solver.specs.declared.start.Start.{Start}
use Rattle.interval_solver.specs.Tables.{gain}
use Rattle.interval_solver.specs.Lanes.{lane}
use Rattle.interval_solver.proofs.walk.tight_start.Given as goal

abbrev pub invariant-loop-start : goal.invariant-loop-start
invariant-loop-start g l = (k : ℕ) (d : Start) → k < l.start-index
    → ¬ (gain (lane l.lane_place l.prices) (lane l.lane_place l.table) (slice_index_or l.row k d) ≡ l.surplus)
