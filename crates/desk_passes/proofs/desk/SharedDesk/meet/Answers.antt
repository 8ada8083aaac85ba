use Rattle.std.proofs.Common.{◌∙◌, ap, arith}
use Rattle.desk_passes.specs.Plays.{Seated}
use Rattle.desk_passes.proofs.Steps.{joins_note, looks}
use Rattle.desk_passes.proofs.desk.SharedDesk.meet.Goals as goal

pub join_seat-requires : goal.join_seat-requires
join_seat-requires c = (
  c.requires.pass,
  c.requires.note,
  c.args.note.no_slot,
  omega (arith, c.args.self.now.two_words),
  λ s h at ne there.
      joins_note c.args.self.now.table.shared.key s c.args.pass.now.inner.id c.args.note.inner.id c.args.pass.now.inner.me.0 c.args.note.inner.me.0
      c.args.pass.now.no_turn c.args.note.nobody
      c.args.note.no_passes h at ne there,
)

pub load-requires : goal.load-requires
load-requires c =
    let joined = c.join_seat.ensures in
    let seat = c.join_seat.new.seat in (
      joined.0 ∙ c.requires.pass,
      omega (arith, c.args.self.now.two_words),
      λ s h _ at _. looks c.args.self.now.table.shared.key s seat.id seat.me h at (ap (λ (me : Seated). me.0.turn) joined.2 ∙ c.args.pass.now.no_turn),
    )
