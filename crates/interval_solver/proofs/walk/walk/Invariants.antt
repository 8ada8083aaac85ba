use Rattle.std.proofs.Common.{◌≡◌, ◌≢◌, ◌+◌, ◌-◌, ◌<◌, ◌≤◌, List, ◌++◌, length}
use Rattle.plan_base.specs.declared.claim.Placement.{Placement}
use Rattle.plan_base.specs.Tables.{entry}
use Rattle.interval_solver.specs.Lanes.{lane}
use Rattle.interval_solver.proofs.Walking.{IsWalked}
use Rattle.interval_solver.proofs.walk.walk.Given as goal

abbrev pub invariant-loop-slice : goal.invariant-loop-slice
invariant-loop-slice g l = record {
  within : l.slice ≤ length l.rows;
  busy : l.slice < length l.rows → entry (lane l.lane_place l.table) l.slice ≢ entry (lane l.lane_place l.table) (l.slice + 1);
  walked : (starts : List Placement) × IsWalked l.snapshot (lane l.lane_place l.prices) l.telescope.0 l.slice starts
      × (l.uses.starts ≡ l.fn.uses.starts ++ starts) × (length starts ≤ l.slice);
  snapshot : l.uses.snapshot ≡ l.snapshot;
  room : l.uses.room ≡ l.fn.uses.room;
}

abbrev pub decreases-loop-slice : goal.decreases-loop-slice
decreases-loop-slice g l = length l.rows - l.slice
