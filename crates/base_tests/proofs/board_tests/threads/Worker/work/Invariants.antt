use Rattle.board.specs.Seats.{IsSeatOf}
use Rattle.base_tests.proofs.board_tests.threads.Worker.work.Given as goal

abbrev pub invariant-loop : goal.invariant-loop
invariant-loop l = IsSeatOf l.board l.self.seat
