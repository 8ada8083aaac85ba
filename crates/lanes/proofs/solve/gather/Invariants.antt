use Rattle.std.proofs.Common.{All, vec_len}
use Rattle.board.specs.Seats.{view, IsSeatOf}
use Rattle.lanes.specs.Solving.{HasWorked, IsGathering}
use Rattle.lanes.proofs.solve.gather.Given as goal

abbrev pub invariant-loop-worker : goal.invariant-loop-worker
invariant-loop-worker g l =
    IsSeatOf l.board l.seat
    × IsGathering l.taken.snapshot l.taken.settings l.fn.found.value l.fn.found.plan (view l.seat) l.found (vec_len l.workers)
    × All (λ worker. IsSeatOf l.board worker.seat) l.workers.items
    × All (HasWorked g.row.L l.taken.snapshot l.taken.settings l.fn.found.value) l.workers.items

abbrev pub decreases-loop-worker : goal.decreases-loop-worker
decreases-loop-worker g l = vec_len l.workers
