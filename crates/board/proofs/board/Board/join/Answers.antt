use Rattle.std.proofs.Common.{arith}
use Rattle.board.proofs.Steps.{joins}
use Rattle.board.proofs.board.Board.join.Goals as goal

pub join_seat-requires : goal.join_seat-requires
join_seat-requires c = (
  c.requires.seat,
  c.requires.other,
  c.args.other.no_slot,
  omega (arith, c.args.self.now.three_words),
  λ s h at ne there. joins s c.args.seat.now.inner.id c.args.other.inner.id c.args.seat.now.inner.me.0 c.args.other.inner.me.0
      c.args.seat.now.live h at ne there,
)
