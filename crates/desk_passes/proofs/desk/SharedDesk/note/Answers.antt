use Rattle.std.proofs.Common.{arith}
use Rattle.desk_passes.proofs.Steps.{splits_note}
use Rattle.desk_passes.proofs.desk.SharedDesk.note.Goals as goal

pub split_seat-inner-requires : goal.split_seat-inner-requires
split_seat-inner-requires c = (
  c.requires,
  omega (arith, c.args.self.now.two_words),
  λ s h at. splits_note c.args.self.now.table.shared.key s c.args.pass.now.inner.id c.args.pass.now.inner.me.0 h at,
)
