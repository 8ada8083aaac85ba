use Rattle.std.proofs.Common.{◌≡◌, ◌<◌, ◌+◌, ℕ, length, None, set, get_or, subst, sym}
use Rattle.desk_book.specs.Kept.{AreCounted}
use Rattle.desk_book.specs.Doing.{SaysNext}
use Rattle.desk_book.specs.Inside.{seen_book}
use Rattle.desk_book.specs.Seen.{BookSeen, take_of}
use Rattle.desk_book.proofs.Fields.{pushed, book_with, step_fields}
use Rattle.desk_book.proofs.Sound.{next_below, few_changes}
use Rattle.desk_book.proofs.book.Book.do_step.Goals as goal

pub apply_read-requires-clause-version : goal.apply_read-requires-clause-version
apply_read-requires-clause-version c =
    let b : BookSeen = seen_book c.self.inside in
    let low : c.args.caller < length b.scripts = subst (λ (v : BookSeen). c.args.caller < length v.scripts) (sym c.self.view_is) c.requires.caller in
    let next : SaysNext b c.args.caller c.args.read = subst (λ (v : BookSeen). SaysNext v c.args.caller c.args.read) (sym c.self.view_is) c.requires.next in
    few_changes b c.self.inside.done.items c.args.caller c.self.invariant.sound c.self.invariant.counted low (next_below b c.args.caller c.args.read next)

pub invariant_of-self-2 : goal.invariant_of-self-2
invariant_of-self-2 c =
    let b : BookSeen = seen_book c.self.inside in
    let low : c.args.caller < length b.scripts = subst (λ (v : BookSeen). c.args.caller < length v.scripts) (sym c.self.view_is) c.requires.caller in
    let shut : take_of b.takes c.args.caller ≡ None = subst (λ (v : BookSeen). take_of v.takes c.args.caller ≡ None) (sym c.self.view_is) c.requires.shut in
    let next : SaysNext b c.args.caller c.args.read = subst (λ (v : BookSeen). SaysNext v c.args.caller c.args.read) (sym c.self.view_is) c.requires.next in
    let place : c.from-place.result ≡ c.args.caller = c.from-place.ensures in
    let at : c.index.result.now ≡ get_or c.self.inside.done.items c.args.caller c.index.result.now =
    subst (λ (k : ℕ). c.index.result.now ≡ get_or c.self.inside.done.items k c.index.result.now) place c.index.ensures in
    let x = step_fields b c.self.inside.done.items c.args.caller c.index.result.now c.version-version.result c.args.read c.in_ok-reply.reply
    c.apply_read.new.state c.push_reserved.new.self.items
    c.self.invariant.sound c.self.invariant.counted low at shut next c.in_ok-reply.ensures.done c.version-version.ensures.version
    (pushed c.self.inside.history.items c.reserve.new.self.items c.push_reserved.new.self.items _
    c.push_reserved.ensures.items c.in_ok-reserve.ensures.items) in
    let now : BookSeen = book_with b c.push_reserved.new.self.items c.apply_read.new.state b.takes in
    record { sound = x.0; counted = subst (λ (k : ℕ). AreCounted now (set c.self.inside.done.items k (c.index.result.now + 1))) (sym place) x.1 }
