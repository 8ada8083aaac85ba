use Rattle.std.proofs.Common.{◌≡◌, ◌∙◌, ◌++◌, ◌∷◌, ◌<◌, ◌-◌, true, false, List, [], length, ap, sym, arith}
use Rattle.std.proofs.lemmas.List.{append-nil}
use Rattle.std.proofs.lemmas.Option.{slice_get_within}
use Rattle.desk_runs.specs.States.{is_open}
use Rattle.desk_core.specs.declared.desk.Submitted.{Submitted}
use Rattle.desk_core.specs.declared.ending.Ending.{Ending}
use Rattle.desk_core.specs.Desk.{seen}
use Rattle.desk_core.specs.Endings.{endings_of, ending_of}
use Rattle.desk_core.proofs.ToldAt.{none_ends, one_ends, submitted_is}
use Rattle.desk_core.proofs.desk.Desk.push_ending.Goals as goal

pub returns-then-not-is_open : goal.returns-then-not-is_open
returns-then-not-is_open c = λ p h.
    let closed : is_open c.known-before.result.now ≡ false = cc in
    let none : endings_of (p ∷ []) ≡ [] = none_ends (seen c.args.self.now) p c.known-before.result.now c.args.after.now h c.known-before.ensures closed in
    sym (append-nil c.args.endings.now.items) ∙ ap (λ (l : List Ending). c.args.endings.now.items ++ l) (sym none)

pub submission-submitted-requires : goal.submission-submitted-requires
submission-submitted-requires c =
    let within : c.args.after.now.number.0 - 1 < length c.args.self.now.submitted.items =
    slice_get_within c.args.self.now.submitted.items (c.args.after.now.number.0 - 1) c.requires.0.0 c.requires.1.submitted in
    (c.requires.1.from, omega (arith, within))

pub find_ending-requires-clause-count : goal.find_ending-requires-clause-count
find_ending-requires-clause-count c =
    ap (λ (x : Submitted). length x.requests)
    (submitted_is (seen c.args.self.now) c.requires.0 c.args.after.now c.submission-submitted.result.now c.requires.1
    c.submission-submitted.ensures)
    ∙ c.requires.1.count

pub returns : goal.returns
returns c = λ p h.
    let w : Submitted = c.submission-submitted.result.now in
    let opened : is_open c.known-before.result.now ≡ true = cc in
    let one : endings_of (p ∷ []) ≡ ending_of (w, (c.known-before.result.now, c.args.after.now)) ∷ [] =
    one_ends (seen c.args.self.now) p w c.known-before.result.now c.args.after.now h c.submission-submitted.ensures
    c.known-before.ensures opened in
    c.in_ok-push.ensures.items ∙ ap (λ (e : Ending). c.args.endings.now.items ++ e ∷ []) c.in_ok-ending.ensures
    ∙ ap (λ (l : List Ending). c.args.endings.now.items ++ l) (sym one)
