use Rattle.std.proofs.Common.{◌∙◌, sym, ap, subst, arith}
use Rattle.desk_passes.specs.declared.seen.PassView.{PassView}
use Rattle.desk_passes.specs.Plays.{Seated}
use Rattle.desk_passes.specs.Turns.{HasEntry}
use Rattle.desk_passes.proofs.Steps.{counted, given}
use Rattle.desk_passes.proofs.Known.{counted_as}
use Rattle.desk_passes.proofs.desk.SharedDesk.count_and_give_back.Goals as goal

pub fetch_add-place-requires : goal.fetch_add-place-requires
fetch_add-place-requires c =
    let seat = c.put_book.new.seat in
    let put = c.put_book.ensures.put in (
      c.put_book.ensures.desk,
      omega (arith, c.args.self.now.two_words),
      λ s h _ at _.
          counted c.args.self.now.table.shared.key s seat.id seat.me h at c.args.caller c.args.book
          (subst (λ (v : PassView). HasEntry v c.args.caller c.args.book) (sym (ap (λ (me : Seated). me.0) put)) c.requires.more)
          (ap (λ (me : Seated). me.1) put)
          (omega (arith, c.entries.type_inv, c.entries.ensures)),
    )

pub swap-requires : goal.swap-requires
swap-requires c =
    let seat = c.fetch_add-place.new.seat in
    let put = c.put_book.ensures.put in
    let mine = ap (λ (me : Seated). me.0.caller) put ∙ c.requires.more.2 in
    let told = counted_as c.put_book.new.seat.me seat.me c.args.caller c.fetch_add-place.result c.args.book mine
    (ap (λ (me : Seated). me.1) put) c.fetch_add-place.ensures.2 in (
      c.fetch_add-place.ensures.0 ∙ c.put_book.ensures.desk,
      omega (arith, c.args.self.now.two_words),
      λ s h _ at _.
          given c.args.self.now.table.shared.key s seat.id seat.me h at c.args.caller c.args.book (ap (λ (me : Seated). me.0.caller) told.0 ∙ mine)
          (ap (λ (me : Seated). me.0.turn) told.0)
          (ap (λ (me : Seated). me.1) told.0),
    )
