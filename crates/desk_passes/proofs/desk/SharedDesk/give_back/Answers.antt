use Rattle.std.proofs.Common.{◌∙◌, ap, arith}
use Rattle.desk_passes.specs.Plays.{Seated}
use Rattle.desk_passes.proofs.Steps.{given}
use Rattle.desk_passes.proofs.desk.SharedDesk.give_back.Goals as goal

pub swap-requires : goal.swap-requires
swap-requires c =
    let seat = c.put_book.new.seat in
    let put = c.put_book.ensures.put in (
      c.put_book.ensures.desk,
      omega (arith, c.args.self.now.two_words),
      λ s h _ at _.
          given c.args.self.now.table.shared.key s seat.id seat.me h at c.requires.mine.0 c.args.book
          (ap (λ (me : Seated). me.0.caller) put ∙ c.requires.mine.1)
          (ap (λ (me : Seated). me.0.turn) put ∙ c.requires.turn) (ap (λ (me : Seated). me.1) put),
    )
