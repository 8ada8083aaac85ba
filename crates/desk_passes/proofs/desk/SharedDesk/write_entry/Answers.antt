use Rattle.std.proofs.Common.{◌∙◌, sym, ap, subst}
use Rattle.std.specs.Option.{option_copied}
use Rattle.desk_passes.specs.declared.seen.PassView.{PassView}
use Rattle.desk_passes.specs.Plays.{Seated}
use Rattle.desk_passes.specs.Steps.{without_turn}
use Rattle.desk_passes.specs.Calls.{SeesMore}
use Rattle.desk_passes.proofs.Known.{sees_more, writes}
use Rattle.desk_passes.proofs.desk.SharedDesk.write_entry.Goals as goal

pub returns-clause-more : goal.returns-clause-more
returns-clause-more g c =
    let pass = c.args.pass.now in
    let v = pass.inner.me.0 in
    let took = c.take_book-book.ensures.book in
    let left = ap (λ (me : Seated). me.0) c.give_back.ensures.given ∙ ap (λ (me : Seated). without_turn me.0) took.0 in
    subst (λ (w : PassView). SeesMore v w) (sym left) (sees_more v c.take_book-book.result pass.caller pass.mine took.1 took.2)

pub returns-clause-ok : goal.returns-clause-ok
returns-clause-ok g c =
    writes c.write_entry-written.result c.args.pass.now.inner.me.0 c.take_book-book.result c.args.place c.in-Some.entry.now c.args.into.now.items
    c.write_entry-written.new.into.items
    c.take_book-book.ensures.book.1 c.requires.place (sym (ap option_copied c.in-Some.is) ∙ c.entry.ensures) c.write_entry-written.ensures.ok
