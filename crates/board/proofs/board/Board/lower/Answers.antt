use Rattle.std.proofs.Common.{arith}
use Rattle.board.proofs.Steps.{lowers}
use Rattle.board.proofs.board.Board.lower.Goals as goal

pub fetch_min-requires : goal.fetch_min-requires
fetch_min-requires c = (
  c.requires,
  omega (arith, c.args.self.now.three_words),
  λ s h len at small. lowers s c.args.seat.now.inner.id c.args.seat.now.inner.me h at c.args.bound c.args.seat.now.live,
)
