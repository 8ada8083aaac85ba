use Rattle.std.proofs.Common.{◌≡◌, ◌+◌, All, vec_len}
use Rattle.board.specs.Seats.{view, IsSeatOf}
use Rattle.board.specs.Views.{all_seats}
use Rattle.base_tests.proofs.board_tests.threads.join_all.Given as goal

abbrev pub invariant-loop-worker : goal.invariant-loop-worker
invariant-loop-worker l =
    IsSeatOf l.board l.seat
    × ((view l.seat).seats + (view l.seat).tickets + vec_len l.workers ≡ all_seats)
    × All (λ worker. IsSeatOf l.board worker.seat) l.workers.items

abbrev pub decreases-loop-worker : goal.decreases-loop-worker
decreases-loop-worker l = vec_len l.workers
