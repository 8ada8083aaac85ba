use Rattle.std.proofs.Common.{◌≡◌, ◌+◌, ◌≤◌, ◌<◌, ◌⊎◌, length, min}
use Rattle.board.specs.Seats.{view, IsSeatOf}
use Rattle.lanes.specs.Working.{IsWorking, IsSameWorker, AreFresh}
use Rattle.lanes.proofs.worker.Worker.take_lanes.Given as goal

abbrev pub invariant-loop : goal.invariant-loop
invariant-loop g l =
    IsSeatOf l.board l.self.seat
    × IsWorking g.row.L l.self
    × IsSameWorker g.row.L l.fn.self l.self
    × AreFresh g.row.L l.self
    × (l.self.taken ≡ l.counter)
    × (length (view l.self.seat).claims + min 1 l.self.taken ≤ l.fn.self.settings.lanes + 1)
    × ((l.counter ≡ 0) ⊎ (length (view l.fn.self.seat).claims < length (view l.self.seat).claims))
    × (length (view l.fn.self.seat).claims ≤ length (view l.self.seat).claims)
