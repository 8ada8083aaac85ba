use Rattle.std.proofs.Common.{◌≡◌, ◌<◌, ℕ, length, Some, None, set, get_or, ap, subst, sym, ◌∙◌}
use Rattle.plan_base.specs.declared.taken.Taken.{Taken}
use Rattle.desk_core.specs.History.{IsPlanning}
use Rattle.desk_book.specs.Doing.{SaysNext, IsTakenOf}
use Rattle.desk_book.specs.Inside.{seen_book}
use Rattle.desk_book.specs.Kept.{IsSound, AreCounted}
use Rattle.desk_book.specs.Seen.{BookSeen, take_of}
use Rattle.desk_book.proofs.Fields.{pushed, book_with, take_fields}
use Rattle.desk_book.proofs.book.Book.do_take.Goals as goal

pub invariant_of-self-2 : goal.invariant_of-self-2
invariant_of-self-2 c =
    let b : BookSeen = seen_book c.self.inside in
    let low : c.args.caller < length b.scripts = subst (λ (v : BookSeen). c.args.caller < length v.scripts) (sym c.self.view_is) c.requires.caller in
    let shut : take_of b.takes c.args.caller ≡ None = subst (λ (v : BookSeen). take_of v.takes c.args.caller ≡ None) (sym c.self.view_is) c.requires.shut in
    let next : SaysNext b c.args.caller c.args.read.now =
    subst (λ (v : BookSeen). SaysNext v c.args.caller c.args.read.now) (sym c.self.view_is) c.requires.next in
    let asks : IsPlanning b.state c.args.read.now = subst (λ (v : BookSeen). IsPlanning v.state c.args.read.now) (sym c.self.view_is) c.requires.plan in
    let twin : c.in_ok-kept.kept ≡ c.in_ok-taken.taken = c.in_ok-kept.ensures in
    let was : IsTakenOf b.state c.in_ok-kept.kept = subst (λ (t : Taken). IsTakenOf b.state t) (sym twin) c.in_ok-taken.ensures.taken in
    let named : c.in_ok-kept.kept.caller ≡ c.args.caller = ap (λ (t : Taken). t.caller) twin ∙ c.in_ok-taken.ensures.named in
    let place : c.from-place.result ≡ c.args.caller = c.from-place.ensures in
    let at : c.index.result.now ≡ get_or c.self.inside.done.items c.args.caller c.index.result.now =
    subst (λ (k : ℕ). c.index.result.now ≡ get_or c.self.inside.done.items k c.index.result.now) place c.index.ensures in
    let x = take_fields b c.self.inside.done.items c.args.caller c.index.result.now c.version.result c.args.read.now c.in_ok-kept.kept
    c.push_reserved.new.self.items c.self.invariant.sound c.self.invariant.counted low at shut next asks was named c.version.ensures.version
    (pushed c.self.inside.history.items c.reserve.new.self.items c.push_reserved.new.self.items _
    c.push_reserved.ensures.items c.in_ok-reserve.ensures.items) in
    let now : ℕ → BookSeen = λ k. book_with b c.push_reserved.new.self.items b.state (set b.takes k (Some c.in_ok-kept.kept)) in
    record {
      sound = subst (λ (k : ℕ). IsSound (now k)) (sym place) x.0;
      counted = subst (λ (k : ℕ). AreCounted (now k) c.self.inside.done.items) (sym place) x.1;
    }
