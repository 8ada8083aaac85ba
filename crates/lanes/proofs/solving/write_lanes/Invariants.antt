use Rattle.lanes.proofs.Written.{AreWrittenTo}
use Rattle.lanes.proofs.solving.write_lanes.Given as goal

abbrev pub invariant-loop-place : goal.invariant-loop-place
invariant-loop-place g l = AreWrittenTo g.row.L l.place l.lanes l.fn.into l.into
