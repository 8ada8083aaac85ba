use Rattle.std.proofs.Common.{arith}
use Rattle.board.proofs.Steps.{splits}
use Rattle.board.proofs.board.Board.split.Goals as goal

pub split_seat-made-requires : goal.split_seat-made-requires
split_seat-made-requires c = (
  c.requires.seat,
  omega (arith, c.args.self.now.three_words),
  λ s h at. splits s c.args.seat.now.inner.id c.args.seat.now.inner.me.0 c.args.seat.now.live c.requires.ticket h at,
)
