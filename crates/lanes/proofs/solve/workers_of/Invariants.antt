use Rattle.std.proofs.Common.{◌≡◌, ◌+◌, All, vec_len}
use Rattle.board.specs.Seats.{view, IsSeatOf}
use Rattle.board.specs.Views.{all_seats}
use Rattle.lanes.specs.Solving.{IsUnused, IsNew}
use Rattle.lanes.proofs.solve.workers_of.Given as goal

abbrev pub invariant-loop-number : goal.invariant-loop-number
invariant-loop-number g l =
    IsSeatOf l.board l.seat
    × IsUnused l.value (view l.seat)
    × ((view l.seat).seats ≡ 1)
    × (vec_len l.workers ≡ l.number)
    × ((view l.seat).seats + (view l.seat).tickets + vec_len l.workers ≡ all_seats)
    × All (λ worker. IsSeatOf l.board worker.seat) l.workers.items
    × All (IsNew g.row.L l.taken.snapshot l.taken.settings l.value) l.workers.items
