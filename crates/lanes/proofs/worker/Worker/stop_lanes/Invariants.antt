use Rattle.lanes.specs.Working.{IsWorking, IsStopped}
use Rattle.lanes.proofs.worker.Worker.stop_lanes.Given as goal

abbrev pub invariant-loop-place : goal.invariant-loop-place
invariant-loop-place g l = IsWorking g.row.L l.self × IsStopped g.row.L l.fn.self l.self
