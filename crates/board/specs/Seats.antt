-- What a clause reads of a board and its seats.
use Rattle.std.specs.Prelude.{◌≡◌}
use Rattle.board.specs.declared.board.Board.{Board}
use Rattle.board.specs.declared.seat.BoardSeat.{BoardSeat}
use Rattle.board.specs.declared.seat.SeatView.{SeatView}

-- what the seat knows
abbrev pub view : BoardSeat → SeatView
view seat = seat.inner.me.0

-- the seat was made by this board
abbrev pub IsSeatOf : Board → BoardSeat → Type 0
IsSeatOf board seat = seat.inner.table_id ≡ board.table.shared.table_id
