use Rattle.std.proofs.Common.{arith}
use Rattle.board.proofs.Steps.{sees_value}
use Rattle.board.proofs.board.Board.look_value.Goals as goal

pub load-requires : goal.load-requires
load-requires c = (
  c.requires,
  omega (arith, c.args.self.now.three_words),
  λ s h len at small. sees_value s c.args.seat.now.inner.id c.args.seat.now.inner.me h at c.args.seat.now.live,
)
