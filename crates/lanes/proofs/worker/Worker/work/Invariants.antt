use Rattle.std.proofs.Common.{◌≡◌, ◌+◌, ◌-◌, ◌≤◌, length}
use Rattle.board.specs.Seats.{view, IsSeatOf}
use Rattle.lanes.specs.Working.{IsWorking, IsSameWorker}
use Rattle.lanes.proofs.worker.Worker.work.Given as goal

abbrev pub invariant-loop-self : goal.invariant-loop-self
invariant-loop-self g l =
    IsSeatOf l.board l.self.seat
    × IsWorking g.row.L l.self
    × IsSameWorker g.row.L l.fn.self l.self
    × (l.self.taken ≡ 0)
    × (length (view l.self.seat).claims ≤ l.fn.self.settings.lanes + 1)

abbrev pub decreases-loop-self : goal.decreases-loop-self
decreases-loop-self g l = l.fn.self.settings.lanes + 2 - length (view l.self.seat).claims
