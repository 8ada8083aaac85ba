use Rattle.std.proofs.Common.{◌∙◌, sym, ap, subst, length}
use Rattle.desk_passes.specs.declared.seen.PassView.{PassView}
use Rattle.desk_passes.specs.declared.holders.CallAnswer.{CallAnswer}
use Rattle.desk_passes.specs.Plays.{Seated}
use Rattle.desk_passes.specs.Steps.{with_turn, without_turn, with_entry}
use Rattle.desk_passes.specs.Calls.{IsCalled, SeesMore}
use Rattle.desk_passes.proofs.Books.{called}
use Rattle.desk_passes.proofs.Known.{ready, is_called, sees_more}
use Rattle.desk_passes.proofs.desk.SharedDesk.call.Goals as goal

pub call-called-requires-clause-caller : goal.call-called-requires-clause-caller
call-called-requires-clause-caller g c =
    let pass = c.args.pass.now in
    (ready pass.inner.me.0 c.take_book-book.result pass.caller pass.mine c.requires.shut c.requires.room c.take_book-book.ensures.book.2).low

pub call-called-requires-clause-room : goal.call-called-requires-clause-room
call-called-requires-clause-room g c =
    let pass = c.args.pass.now in
    (ready pass.inner.me.0 c.take_book-book.result pass.caller pass.mine c.requires.shut c.requires.room c.take_book-book.ensures.book.2).room

pub call-called-requires-clause-shut : goal.call-called-requires-clause-shut
call-called-requires-clause-shut g c =
    let pass = c.args.pass.now in
    (ready pass.inner.me.0 c.take_book-book.result pass.caller pass.mine c.requires.shut c.requires.room c.take_book-book.ensures.book.2).shut

pub call-called-requires-clause-over : goal.call-called-requires-clause-over
call-called-requires-clause-over g c =
    let pass = c.args.pass.now in
    (ready pass.inner.me.0 c.take_book-book.result pass.caller pass.mine c.requires.shut c.requires.room c.take_book-book.ensures.book.2).over

pub count_and_give_back-place-requires-clause-more : goal.count_and_give_back-place-requires-clause-more
count_and_give_back-place-requires-clause-more g c =
    let pass = c.args.pass.now in
    let b = c.take_book-book.result in
    let took = c.take_book-book.ensures.book in
    let now = ready pass.inner.me.0 b pass.caller pass.mine c.requires.shut c.requires.room took.2 in
    let it = called b pass.caller c.args.line c.call-called.new.self took.2.full c.callers.ensures.book now.low now.shut _
    c.in-Ok.answer c.in-Ok.ensures.ok in (
      b,
      ap (λ (me : Seated). me.0.turn) took.0,
      ap (λ (me : Seated). me.0.caller) took.0 ∙ pass.mine,
      it.more,
    )

pub returns-in-Ok-clause-ok : goal.returns-in-Ok-clause-ok
returns-in-Ok-clause-ok g c =
    let pass = c.args.pass.now in
    let v = pass.inner.me.0 in
    let b = c.take_book-book.result in
    let took = c.take_book-book.ensures.book in
    let now = ready v b pass.caller pass.mine c.requires.shut c.requires.room took.2 in
    let it = called b pass.caller c.args.line c.call-called.new.self took.2.full c.callers.ensures.book now.low now.shut _ c.in-Ok.answer c.in-Ok.ensures.ok in
    let place = c.count_and_give_back-place.ensures.place ∙ ap (λ (me : Seated). length me.0.seen) took.0 in
    let left = ap (λ (me : Seated). me.0) c.count_and_give_back-place.ensures.given
    ∙ ap (λ (me : Seated). without_turn (with_entry c.call-called.new.self pass.caller me.0)) took.0 in
    let w = without_turn (with_entry c.call-called.new.self pass.caller (with_turn b v)) in
    subst (λ (x : PassView). IsCalled v c.args.line c.with_receipt.result x) (sym left)
    (subst (λ (a : CallAnswer). IsCalled v c.args.line a w) (sym c.with_receipt.ensures)
    (is_called v b c.call-called.new.self pass.caller c.count_and_give_back-place.result c.args.line c.in-Ok.answer pass.mine took.1 took.2 place it))

pub returns-in-Err-clause-err : goal.returns-in-Err-clause-err
returns-in-Err-clause-err g c =
    let pass = c.args.pass.now in
    let v = pass.inner.me.0 in
    let took = c.take_book-book.ensures.book in
    let left = ap (λ (me : Seated). me.0) c.give_back.ensures.given ∙ ap (λ (me : Seated). without_turn me.0) took.0 in
    subst (λ (w : PassView). SeesMore v w) (sym left) (sees_more v c.take_book-book.result pass.caller pass.mine took.1 took.2)
