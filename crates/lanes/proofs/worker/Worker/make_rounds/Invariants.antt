use Rattle.std.proofs.Common.{◌≡◌}
use Rattle.board.specs.Seats.{view, IsSeatOf}
use Rattle.lanes.specs.Working.{IsWorking, IsSameWorker, HasMade}
use Rattle.lanes.proofs.worker.Worker.make_rounds.Given as goal

abbrev pub invariant-loop-round : goal.invariant-loop-round
invariant-loop-round g l =
    IsSeatOf l.board l.self.seat
    × IsWorking g.row.L l.self
    × IsSameWorker g.row.L l.fn.self l.self
    × HasMade g.row.L l.self l.round
    × ((view l.self.seat).claims ≡ (view l.fn.self.seat).claims)
