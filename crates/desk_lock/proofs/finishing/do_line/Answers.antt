use Rattle.std.proofs.Common.{◌≡◌, ℕ, sym, subst, Some}
use Rattle.desk_book.specs.Seen.{take_of}
use Rattle.desk_lock.specs.Finishing.{EndsLine}
use Rattle.desk_lock.proofs.Lines.{performed_begins, begun_ends}
use Rattle.desk_lock.proofs.finishing.do_line.Goals as goal

pub publish-requires-clause-kept : goal.publish-requires-clause-kept
publish-requires-clause-kept g c κs within =
    let taken = c.in-Taken.taken in
    let now = c.perform.new.self in
    let begins = performed_begins c.args.book.now c.args.caller c.in_ok-perform.field-0 taken now c.callers.ensures.book c.requires c.in-Taken.is
    c.in_ok-perform.ensures.ok in
    subst (λ (n : ℕ). take_of now.takes n ≡ Some taken) (sym begins.named) begins.kept

pub returns-in_ok-publish-in-Taken : goal.returns-in_ok-publish-in-Taken
returns-in_ok-publish-in-Taken g c =
    let b = c.args.book.now in
    let taken = c.in-Taken.taken in
    let now = c.perform.new.self in
    let begins = performed_begins b c.args.caller c.in_ok-perform.field-0 taken now c.callers.ensures.book c.requires c.in-Taken.is
    c.in_ok-perform.ensures.ok in
    let ends = subst (λ (n : ℕ). EndsLine now n c.publish.new.book) begins.named c.in_ok-publish-in-Taken.ensures.ok in
    begun_ends b c.args.caller taken now c.publish.new.book begins ends
