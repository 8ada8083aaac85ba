use Rattle.std.proofs.Common.{arith}
use Rattle.board.proofs.Steps.{raises}
use Rattle.board.proofs.board.Board.raise.Goals as goal

pub fetch_max-requires : goal.fetch_max-requires
fetch_max-requires c = (
  c.requires,
  omega (arith, c.args.self.now.three_words),
  λ s h len at small. raises s c.args.seat.now.inner.id c.args.seat.now.inner.me h at c.args.value c.args.seat.now.live,
)
