use Rattle.lanes.proofs.Written.{IsWrittenTo}
use Rattle.lanes.proofs.solving.write_lane.Given as goal

abbrev pub invariant-loop-request : goal.invariant-loop-request
invariant-loop-request g l = IsWrittenTo g.row.L l.place l.request l.prices l.fn.into l.into
