use Rattle.std.proofs.Common.{◌≡◌, ◌+◌, All, vec_len}
use Rattle.board.specs.Seats.{view, IsSeatOf}
use Rattle.board.specs.Views.{all_seats}
use Rattle.base_tests.proofs.board_tests.threads.workers_of.Given as goal

abbrev pub invariant-loop : goal.invariant-loop
invariant-loop l =
    IsSeatOf l.board l.seat
    × ((view l.seat).seats ≡ 1)
    × (vec_len l.workers ≡ l.counter)
    × ((view l.seat).seats + (view l.seat).tickets + vec_len l.workers ≡ all_seats)
    × All (λ worker. IsSeatOf l.board worker.seat) l.workers.items
