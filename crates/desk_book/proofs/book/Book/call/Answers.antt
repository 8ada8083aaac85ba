use Rattle.std.proofs.Common.{◌≡◌, ◌-◌, ◌<◌, ℕ, length, true, ap, subst, sym, ◌∙◌, Result, Ok, Err, OnErr, is_err}
use Rattle.plan_io.specs.declared.lines.ScriptLine.{ScriptLine}
use Rattle.desk_core.specs.History.{script_of}
use Rattle.desk_book.specs.Kept.{IsSound}
use Rattle.desk_book.specs.Seen.{BookSeen, with_line, with_lines}
use Rattle.desk_book.proofs.Fields.{taken_back}
use Rattle.desk_book.proofs.book.Book.call.Goals as goal

at_err : {T E : Type 0} (r : Result T E) (P : Type 0) → is_err r ≡ true → OnErr r P → P
at_err (Ok x) P is h = cc
at_err (Err e) P is h = h

on_err : {T E : Type 0} (r : Result T E) (P : Type 0) → P → OnErr r P
on_err (Ok x) P p = tt
on_err (Err e) P p = p

-- the book without the caller's last line
abbrev shorter : BookSeen → ℕ → BookSeen
shorter b caller = with_lines b caller (length (script_of b.scripts caller) - 1)

before : (old new : BookSeen) (caller : ℕ) (line : ScriptLine) → caller < length old.scripts → new ≡ with_line old caller line → shorter new caller ≡ old
before old new caller line low is = ap (λ (v : BookSeen). shorter v caller) is ∙ taken_back old caller line low

pub take_back-requires-clause-sound : goal.take_back-requires-clause-sound
take_back-requires-clause-sound c =
    let old : BookSeen = c.args.self.now in
    let sound : IsSound old = subst IsSound c.self.view_is c.self.invariant.sound in
    let failed = at_err c.do_next-answer.result _ (sym c.is_err.ensures.value ∙ c.if-is_err.true) c.do_next-answer.ensures.err in
    let is : c.do_next-answer.new.self ≡ with_line old c.args.caller c.args.line = failed ∙ c.in_ok-push.ensures.ok in
    subst IsSound (sym (before old c.do_next-answer.new.self c.args.caller c.args.line c.requires.caller is)) sound

pub returns-then-is_err-clause-err : goal.returns-then-is_err-clause-err
returns-then-is_err-clause-err c =
    let old : BookSeen = c.args.self.now in
    let failed = at_err c.do_next-answer.result _ (sym c.is_err.ensures.value ∙ c.if-is_err.true) c.do_next-answer.ensures.err in
    let is : c.do_next-answer.new.self ≡ with_line old c.args.caller c.args.line = failed ∙ c.in_ok-push.ensures.ok in
    on_err c.do_next-answer.result _ (c.take_back.ensures ∙ before old c.do_next-answer.new.self c.args.caller c.args.line c.requires.caller is)
