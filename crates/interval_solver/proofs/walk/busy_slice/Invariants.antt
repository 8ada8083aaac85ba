use Rattle.std.proofs.Common.{◌-◌, ◌<◌, ◌≤◌, length}
use Rattle.interval_solver.specs.Lanes.{lane}
use Rattle.interval_solver.specs.Tables.{IsFlat}
use Rattle.interval_solver.proofs.walk.busy_slice.Given as goal

abbrev pub invariant-loop-slice : goal.invariant-loop-slice
invariant-loop-slice g l = record { from : l.from ≤ l.slice; within : l.slice < length l.table; idle : IsFlat (lane l.lane_place l.table) l.from l.slice }

abbrev pub decreases-loop-slice : goal.decreases-loop-slice
decreases-loop-slice g l = length l.table - l.slice
