use Rattle.std.proofs.Common.{◌≡◌, ◌<◌, ℕ, length, get_or, set, subst, sym}
use Rattle.desk_core.specs.History.{script_of}
use Rattle.desk_book.specs.Inside.{seen_book}
use Rattle.desk_book.specs.Kept.{IsSound, AreCounted}
use Rattle.desk_book.specs.Seen.{BookSeen}
use Rattle.desk_book.proofs.Fields.{line_fields}
use Rattle.desk_book.proofs.book.Book.push.Goals as goal

pub invariant_of-self : goal.invariant_of-self
invariant_of-self c =
    let b : BookSeen = seen_book c.self.inside in
    let low : c.args.caller < length b.scripts = subst (λ (v : BookSeen). c.args.caller < length v.scripts) (sym c.self.view_is) c.requires.caller in
    let room : length (script_of b.scripts c.args.caller) < 65536 = subst (λ (v : BookSeen). length (script_of v.scripts c.args.caller) < 65536)
    (sym c.self.view_is) c.requires.room in
    let place : c.from.result ≡ c.args.caller = c.from.ensures in
    let at : c.index_mut-script.result.now ≡ get_or b.scripts c.args.caller c.index_mut-script.result.now =
    subst (λ (k : ℕ). c.index_mut-script.result.now ≡ get_or b.scripts k c.index_mut-script.result.now) place c.index_mut-script.ensures.value in
    let x =
    line_fields b c.self.inside.done.items c.args.caller c.args.line c.index_mut-script.result.now c.push.new.self c.push.result
    c.self.invariant.sound c.self.invariant.counted low room
    at c.push.ensures.ok c.push.ensures.err in
    let now : ℕ → BookSeen = λ k. record b { scripts = set b.scripts k c.push.new.self } in
    record {
      sound = subst (λ (k : ℕ). IsSound (now k)) (sym place) x.0;
      counted = subst (λ (k : ℕ). AreCounted (now k) c.self.inside.done.items) (sym place) x.1;
    }
