use Rattle.lanes.proofs.RoundsInStep.{IsRoundGoing}
use Rattle.lanes.proofs.worker.Worker.make_round.Given as goal

abbrev pub invariant-loop-place : goal.invariant-loop-place
invariant-loop-place g l = IsRoundGoing g.row.L l.board l.fn.self l.self l.round l.place
