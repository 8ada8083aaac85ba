use Rattle.std.proofs.Common.{◌∙◌, sym, ap, subst, length}
use Rattle.desk_passes.specs.declared.seen.PassView.{PassView}
use Rattle.desk_passes.specs.Plays.{Seated}
use Rattle.desk_passes.specs.Steps.{without_turn, with_entry}
use Rattle.desk_passes.specs.Calls.{IsPublished, SeesMore}
use Rattle.desk_passes.proofs.Books.{published}
use Rattle.desk_passes.proofs.Known.{opened, is_published, sees_more}
use Rattle.desk_passes.proofs.desk.SharedDesk.publish.Goals as goal

pub publish_open-published-requires : goal.publish_open-published-requires
publish_open-published-requires g c =
    let pass = c.args.pass.now in
    (opened pass.inner.me.0 c.take_book-book.result pass.caller c.args.solved pass.mine c.take_book-book.ensures.book.2 c.requires.taken).kept

pub count_and_give_back-place-requires-clause-more : goal.count_and_give_back-place-requires-clause-more
count_and_give_back-place-requires-clause-more g c =
    let pass = c.args.pass.now in
    let b = c.take_book-book.result in
    let took = c.take_book-book.ensures.book in
    let now = opened pass.inner.me.0 b pass.caller c.args.solved pass.mine took.2 c.requires.taken in
    let it = published b c.publish_open-published.new.book pass.caller c.args.solved c.in-Ok.ensures.ok.0 took.2.full c.callers.ensures.book now.low
    now.named c.in-Ok.ensures.ok.1 in (
      b,
      ap (λ (me : Seated). me.0.turn) took.0,
      ap (λ (me : Seated). me.0.caller) took.0 ∙ pass.mine,
      it.more,
    )

pub give_back-requires-clause-mine : goal.give_back-requires-clause-mine
give_back-requires-clause-mine g c =
    let pass = c.args.pass.now in (pass.caller, ap (λ (me : Seated). me.0.caller) c.take_book-book.ensures.book.0 ∙ pass.mine)

pub returns-in-Ok-clause-ok : goal.returns-in-Ok-clause-ok
returns-in-Ok-clause-ok g c =
    let pass = c.args.pass.now in
    let v = pass.inner.me.0 in
    let b = c.take_book-book.result in
    let took = c.take_book-book.ensures.book in
    let now = opened v b pass.caller c.args.solved pass.mine took.2 c.requires.taken in
    let it = published b c.publish_open-published.new.book pass.caller c.args.solved c.in-Ok.ensures.ok.0 took.2.full c.callers.ensures.book now.low
    now.named c.in-Ok.ensures.ok.1 in
    let place = c.count_and_give_back-place.ensures.place ∙ ap (λ (me : Seated). length me.0.seen) took.0 in
    let left = ap (λ (me : Seated). me.0) c.count_and_give_back-place.ensures.given
    ∙ ap (λ (me : Seated). without_turn (with_entry c.publish_open-published.new.book pass.caller me.0)) took.0 in
    subst (λ (w : PassView). IsPublished v c.args.solved c.count_and_give_back-place.result w) (sym left)
    (is_published v b c.publish_open-published.new.book pass.caller c.count_and_give_back-place.result c.args.solved now.take pass.mine took.1 took.2
    place now.is_open now.line it)

pub returns-in-Err-clause-err : goal.returns-in-Err-clause-err
returns-in-Err-clause-err g c =
    let pass = c.args.pass.now in
    let v = pass.inner.me.0 in
    let took = c.take_book-book.ensures.book in
    let left = ap (λ (me : Seated). me.0) c.give_back.ensures.given ∙ ap (λ (me : Seated). without_turn me.0) took.0 in
    subst (λ (w : PassView). SeesMore v w) (sym left) (sees_more v c.take_book-book.result pass.caller pass.mine took.1 took.2)
