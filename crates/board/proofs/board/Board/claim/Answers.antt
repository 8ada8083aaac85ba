use Rattle.std.proofs.Common.{arith}
use Rattle.board.proofs.Steps.{claims}
use Rattle.board.proofs.board.Board.claim.Goals as goal

pub fetch_add-requires : goal.fetch_add-requires
fetch_add-requires c = (
  c.requires.seat,
  omega (arith, c.args.self.now.three_words),
  λ s h len at small. claims s c.args.seat.now.inner.id c.args.seat.now.inner.me h at c.requires.room,
)
