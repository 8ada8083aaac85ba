-- What is known once a call is made.
use Rattle.std.proofs.Common.{◌≡◌, ◌≢◌, ℕ, ◌+◌, ◌<◌, List, [], ◌∷◌, ◌++◌, length, refl, sym, ◌∙◌, ap, subst, Option, Some, None, arith}
use mathlib.Core.Option.{some, some-injective}
use lib.ListN.{get_elem?}
use Rattle.atomic_table.specs.Table.{rest}
use Rattle.std.proofs.Common.{zero, suc, ◌⊎◌, inl, inr, slice_get, slice_set, get_or-set_other, Result, Ok, Err, OnOk}
use Rattle.std.specs.declared.alloc.AllocError.{AllocError}
use Rattle.std.specs.Option.{option_map}
use Rattle.std.proofs.lemmas.Option.{slice_get-map}
use Rattle.plan_base.specs.declared.taken.Taken.{Taken as TakenParts}
use Rattle.plan_base.specs.Solved.{SolvedTake}
use Rattle.plan_io.specs.declared.lines.ScriptLine.{ScriptLine}
use Rattle.desk_events.specs.declared.entry.EventEntry.{EventEntry}
use Rattle.desk_events.specs.Entry.{text_of_entry}
use Rattle.desk_core.specs.History.{script_of}
use Rattle.desk_book.specs.declared.step.BookCall.{BookCall}
use Rattle.desk_book.specs.declared.step.BookCall.TheVariants as call
use Rattle.desk_book.specs.declared.step.PublishStep.{PublishStep}
use Rattle.desk_book.specs.declared.step.PublishStep.TheVariants as publish
use Rattle.desk_book.specs.Seen.{BookSeen, take_of, done_of, next_line}
use Rattle.desk_book.specs.Doing.{IsAnswered, IsPublished as IsBookPublished}
use Rattle.desk_book.specs.Kept.{IsOpenTake}
use Rattle.desk_passes.specs.declared.seen.OpenTake.{OpenTake}
use Rattle.desk_passes.specs.declared.seen.PassPlace.{PassPlace}
use Rattle.desk_passes.specs.declared.seen.PassPlace.TheVariants.{NotMade, Out, Back}
use Rattle.desk_passes.specs.declared.seen.PassView.{PassView}
use Rattle.desk_passes.specs.declared.seen.SeenEntry.{SeenEntry}
use Rattle.desk_passes.specs.Seen.{with_line_of, log_of, of_caller, lines_done, line_next, open_with, begun, EachHasEntry}
use Rattle.desk_passes.specs.Knowing.{IsFull, IsOwn, SeesAll, IsAllOf}
use Rattle.desk_passes.specs.Plays.{Seated, GoesOn, RootLooks, GetsTurn, Counts}
use Rattle.desk_passes.specs.Rule.{place_of}
use Rattle.desk_passes.specs.Steps.{with_turn, with_entry, without_turn, with_back, with_pass_back}
use Rattle.desk_passes.specs.Turns.{HasOneMore, answered}
use Rattle.desk_passes.specs.Calls.{SeesMore, Adds, IsCalled, IsForTake, IsPublished, WritesEntry}
use Rattle.desk_passes.proofs.Logs.{own_mine, done_lined}
use Rattle.desk_passes.proofs.Books.{Called, Published}
use Rattle.desk_passes.proofs.Ends.{Closes}

-- ---- the turn

-- the slot that was taken last has the book
pub slot_held : (before after : Seated) → GetsTurn before after → (r : Option BookSeen) × (after.1 ≡ (0, r) ∷ rest after.1)
slot_held before after turn =
    let held : after.1 ≡ (0, Some turn.0) ∷ before.1 = ap (λ (me : Seated). me.1) turn.1 in
    (Some turn.0, held ∙ ap (λ (xs : List (ℕ × Option BookSeen)). (0, Some turn.0) ∷ xs) (sym (ap rest held)))

-- the book in the slot, or another one where there is none
abbrev held_of : BookSeen → List (ℕ × Option BookSeen) → BookSeen
held_of other [] = other
held_of other ((slot, None) ∷ rest) = other
held_of other ((slot, Some b) ∷ rest) = b

-- the count tells the view what it became, and its entry's place
pub counted_as : (before after : Seated) (caller word : ℕ) (c : BookSeen) → before.0.caller ≡ Some caller → before.1 ≡ (0, Some c) ∷ []
    → Counts before word after
    → (after ≡ (with_entry c caller before.0, (0, Some c) ∷ [])) × (word ≡ length before.0.seen)
counted_as before after caller word c mine carried told =
    let callers : Some told.1.entry.caller ≡ Some caller = sym told.3 ∙ mine in
    let same : told.1.entry.caller ≡ caller = cc in
    let book : told.0 ≡ c = ap (held_of c) (sym told.4 ∙ carried) in (
      told.5 ∙ ap (λ (x : BookSeen). (with_entry x told.1.entry.caller before.0, before.1)) book
          ∙ ap (λ (n : ℕ). (with_entry c n before.0, before.1)) same
          ∙ ap (λ (xs : List (ℕ × Option BookSeen)). (with_entry c caller before.0, xs)) carried,
      told.6,
    )

-- ---- what a call leaves

-- a view with all of a book, as its caller has it
sees_own : (b : BookSeen) (caller : ℕ) (v w : PassView) → v.caller ≡ Some caller → IsFull b → IsOwn b caller w → w.seen ≡ log_of b
    → w.caller ≡ v.caller → SeesAll w b
sees_own b caller v w mine full own seen same = record {
  full = full;
  seen = seen;
  mine = λ other is.
      let both : Some caller ≡ Some other = sym mine ∙ sym same ∙ is in
      let one : caller ≡ other = cc in
      subst (λ (n : ℕ). IsOwn b n w) one own;
}

pub sees_more : (v : PassView) (b : BookSeen) (caller : ℕ) → v.caller ≡ Some caller → GoesOn v b → SeesAll (with_turn b v) b
    → SeesMore v (without_turn (with_turn b v))
sees_more v b caller mine goes sees =
    let own : IsOwn b caller (with_turn b v) = sees.mine caller mine in
    record {
      seen = goes.seen;
      own = refl;
      take = refl;
      knows = (b, sees_own b caller v (without_turn (with_turn b v)) mine sees.full record { low = own.low; own = own.own; take = own.take } refl refl);
    }

pub adds : (v : PassView) (b c : BookSeen) (caller place : ℕ) (more : HasOneMore b caller c) → v.caller ≡ Some caller → GoesOn v b
    → SeesAll (with_turn b v) b → place ≡ length (log_of b)
    → Adds v place more.entry (without_turn (with_entry c caller (with_turn b v)))
adds v b c caller place more mine goes sees at =
    let own : IsOwn b caller (with_turn b v) = sees.mine caller mine in
    let w : PassView = without_turn (with_entry c caller (with_turn b v)) in
    record {
      between = goes.seen.0;
      seen = more.log ∙ ap (λ (log : List SeenEntry). log ++ more.entry ∷ []) goes.seen.1;
      stands = at ∙ ap (λ (log : List SeenEntry). length log) goes.seen.1;
      own = ap (of_caller caller) more.log ∙ own_mine caller (log_of b) more.entry more.mine
          ∙ ap (λ (xs : List SeenEntry). xs ++ more.entry ∷ []) (sym own.own);
      mine = mine ∙ ap (λ (n : ℕ). Some n) (sym more.mine);
      knows = (
        c,
        sees_own c caller v w mine more.full record {
          low = subst (λ (n : ℕ). caller < n) (sym more.callers) own.low;
          own = refl;
          take = refl;
        } refl refl,
      );
    }

-- ---- what a call needs

-- nothing is open where nothing is taken
none_open : (line : ScriptLine) (o : Option TakenParts) → open_with line o ≡ None → o ≡ None
none_open line None h = refl
none_open line (Some taken) h = cc

past_end : (xs : List ScriptLine) → slice_get xs (length xs) ≡ None
past_end [] = refl
past_end (x ∷ xs) = past_end xs

pub record Ready (b : BookSeen) (caller : ℕ) : Type 0 where
  pub low : caller < length b.scripts
  pub room : length (script_of b.scripts caller) < 65536
  pub shut : take_of b.takes caller ≡ None
  pub over : next_line b caller ≡ None

pub ready : (v : PassView) (b : BookSeen) (caller : ℕ) → v.caller ≡ Some caller → v.take ≡ None → lines_done v.own < 65536
    → SeesAll (with_turn b v) b → Ready b caller
ready v b caller mine shut room sees =
    let own : IsOwn b caller (with_turn b v) = sees.mine caller mine in
    let empty : take_of b.takes caller ≡ None = none_open (line_next b caller) (take_of b.takes caller) (sym own.take ∙ shut) in
    let done : lines_done v.own ≡ done_of caller b.history = ap lines_done own.own ∙ done_lined b.scripts caller b.history in
    let all : length (script_of b.scripts caller) ≡ done_of caller b.history + 0 = sees.full.each caller
    ∙ ap (λ (o : Option TakenParts). done_of caller b.history + begun o) empty in
    record {
      low = own.low;
      room = omega (arith, room, done, all);
      shut = empty;
      over = ap (slice_get (script_of b.scripts caller)) (omega (arith, all)) ∙ past_end (script_of b.scripts caller);
    }

-- a call of a line
pub is_called : (v : PassView) (b c : BookSeen) (caller place : ℕ) (line : ScriptLine) (answer : BookCall) → v.caller ≡ Some caller → GoesOn v b
    → SeesAll (with_turn b v) b
    → place ≡ length (log_of b) → Called b caller line answer c
    → IsCalled v line (answered answer record { place = place }) (without_turn (with_entry c caller (with_turn b v)))
is_called v b c caller place line call.Replied mine goes sees at called =
    ((called.more.entry, called.line_is, called.what, adds v b c caller place called.more mine goes sees at), called.left)
is_called v b c caller place line (call.Taken taken) mine goes sees at called =
    ((called.more.entry, called.line_is, called.what, adds v b c caller place called.more mine goes sees at), called.left)

-- ---- what a publication needs

-- what is open is what was taken, with the line that comes next
open_is : (line : ScriptLine) (o : Option TakenParts) (t : OpenTake) → open_with line o ≡ Some t → (o ≡ Some t.taken) × (line ≡ t.line)
open_is line None t h = cc
open_is line (Some taken) t h =
    let is : record { taken = taken; line = line } ≡ t = cc in
    (ap (λ (x : OpenTake). Some x.taken) is, ap (λ (x : OpenTake). x.line) is)

-- what a pass has open was taken by its caller from the book
pub taken_open : (v : PassView) (b : BookSeen) (caller : ℕ) (t : OpenTake) → SeesAll v b → v.caller ≡ Some caller → v.take ≡ Some t
    → take_of b.takes caller ≡ Some t.taken
taken_open v b caller t sees mine is =
    let own : IsOwn b caller v = sees.mine caller mine in (open_is (line_next b caller) (take_of b.takes caller) t (sym own.take ∙ is)).0

pub record Open (v : PassView) (b : BookSeen) (caller : ℕ) (solved : SolvedTake) : Type 0 where
  pub low : caller < length b.scripts
  pub named : solved.taken.caller ≡ caller
  pub kept : take_of b.takes solved.taken.caller ≡ Some solved.taken
  pub take : OpenTake
  pub is_open : v.take ≡ Some take
  pub line : take.line ≡ line_next b caller

pub opened : (v : PassView) (b : BookSeen) (caller : ℕ) (solved : SolvedTake) → v.caller ≡ Some caller → SeesAll (with_turn b v) b
    → IsForTake v solved → Open v b caller solved
opened v b caller solved mine sees is =
    let own : IsOwn b caller (with_turn b v) = sees.mine caller mine in
    let found = open_is (line_next b caller) (take_of b.takes caller) is.0 (sym own.take ∙ is.1) in
    let taken : take_of b.takes caller ≡ Some solved.taken = found.0 ∙ ap (λ (t : TakenParts). Some t) (sym is.2) in
    let it : IsOpenTake b.scripts b.history caller solved.taken = sees.full.book.opens caller solved.taken taken in
    record {
      low = own.low;
      named = it.named;
      kept = ap (take_of b.takes) it.named ∙ taken;
      take = is.0;
      is_open = is.1;
      line = sym found.1;
    }

-- what was found for the open Take is always published
pub replies : (b : BookSeen) (solved : SolvedTake) (answer : PublishStep) (c : BookSeen) → take_of b.takes solved.taken.caller ≡ Some solved.taken
    → IsAnswered b solved answer c
    → (e : EventEntry) × (answer ≡ publish.Replied e) × IsBookPublished b solved e c
replies b solved (publish.Replied e) c kept is = (e, refl, is)
replies b solved publish.NotTaken c kept is = let clash : None ≡ Some solved.taken = sym is.0 ∙ kept in absurd (cc)
replies b solved publish.OtherTake c kept is = absurd (is.1 kept)

pub none_else : (answer : PublishStep) (e : EventEntry) → answer ≡ publish.Replied e → (answer ≡ publish.NotTaken) ⊎ (answer ≡ publish.OtherTake) → ⊥
none_else answer e is (inl other) = let clash : publish.Replied e ≡ publish.NotTaken = sym is ∙ other in absurd (cc)
none_else answer e is (inr other) = let clash : publish.Replied e ≡ publish.OtherTake = sym is ∙ other in absurd (cc)

pub is_published : (v : PassView) (b c : BookSeen) (caller place : ℕ) (solved : SolvedTake) (t : OpenTake) → v.caller ≡ Some caller → GoesOn v b
    → SeesAll (with_turn b v) b → place ≡ length (log_of b)
    → v.take ≡ Some t → t.line ≡ line_next b caller → Published b caller solved c
    → IsPublished v solved place (without_turn (with_entry c caller (with_turn b v)))
is_published v b c caller place solved t mine goes sees at is line p = (
  t,
  is,
  (
    p.more.entry,
    p.line_is ∙ sym line,
    p.what,
    (b.state, p.version, p.reply),
    adds v b c caller place p.more mine goes sees at,
    p.left,
  ),
)

-- ---- the text of an entry

at_place : (xs rest : List SeenEntry) (n : ℕ) → n < length xs → (x : SeenEntry) × (slice_get xs n ≡ Some x) × (slice_get (xs ++ rest) n ≡ Some x)
at_place [] rest n h = absurd (omega (arith, h))
at_place (y ∷ ys) rest zero h = (y, refl, refl)
at_place (y ∷ ys) rest (suc n) h = at_place ys rest n (omega (arith, h))

entry_there : (scripts : List (List ScriptLine)) (o : Option EventEntry) (x : SeenEntry) → option_map (with_line_of scripts) o ≡ Some x → o ≡ Some x.entry
entry_there scripts None x h = cc
entry_there scripts (Some e) x h = let is : with_line_of scripts e ≡ x = cc in ap (λ (y : SeenEntry). Some y.entry) is

-- the entry at a place that was seen is the book's
pub seen_entry : (v : PassView) (b : BookSeen) (place : ℕ) → GoesOn v b → place < length v.seen → (x : SeenEntry) × (slice_get v.seen place ≡ Some x)
    × (slice_get b.history place ≡ Some x.entry)
seen_entry v b place goes low =
    let it = at_place v.seen goes.seen.0 place low in (
      it.0,
      it.1,
      entry_there b.scripts (slice_get b.history place) it.0
          (sym (slice_get-map (with_line_of b.scripts) b.history place) ∙ ap (λ (log : List SeenEntry). slice_get log place) goes.seen.1 ∙ it.2),
    )

pub writes : (r : Result (Unit {0}) AllocError) (v : PassView) (b : BookSeen) (place : ℕ) (e : EventEntry) (old new : List ℕ)
    → GoesOn v b → place < length v.seen
    → Some e ≡ slice_get b.history place → OnOk r (new ≡ old ++ text_of_entry e) → OnOk r (WritesEntry v place old new)
writes (Err x) v b place e old new goes low there written = tt
writes (Ok x) v b place e old new goes low there written =
    let it = seen_entry v b place goes low in
    let both : Some e ≡ Some it.0.entry = there ∙ it.2 in
    let one : e ≡ it.0.entry = cc in
    (it.0, it.1, written ∙ ap (λ (y : EventEntry). old ++ text_of_entry y) one)

-- ---- a pass comes back

set_back : (passes : List PassPlace) (caller : ℕ) → place_of (slice_set passes caller Back) caller ≡ Back
set_back [] zero = refl
set_back [] (suc n) = refl
set_back (x ∷ xs) zero = refl
set_back (x ∷ xs) (suc n) = set_back xs n

-- the root, which got a pass back and looked, has seen exactly the pass's own calls of its caller
pub got_own : (before after : Seated) (v p : PassView) (word caller : ℕ) → before.0 ≡ with_pass_back v p → p.caller ≡ Some caller
    → RootLooks before word after → of_caller caller after.0.seen ≡ p.own
got_own before after v p word caller joined mine looks =
    let now : after.0.seen ≡ log_of looks.0 = ap (λ (me : Seated). me.0.seen) looks.1 in
    let back : place_of before.0.passes caller ≡ Back = ap (λ (u : PassView). place_of u.passes caller) joined
    ∙ ap (λ (o : Option ℕ). place_of (with_back v.passes o) caller) mine ∙ set_back v.passes caller in
    let known : IsAllOf before.0 caller (of_caller caller (log_of looks.0)) = looks.4 caller
    (λ out. let clash : Back ≡ Out = sym back ∙ out in absurd (cc)) in
    ap (of_caller caller) now ∙ known.got (ap (λ (u : PassView). u.back) joined ∙ mine) ∙ ap (λ (u : PassView). u.own) joined

-- of another caller whose pass isn't out it has seen nothing more
pub got_rest : (before after : Seated) (v p : PassView) (word caller other : ℕ) → before.0 ≡ with_pass_back v p → p.caller ≡ Some caller
    → RootLooks before word after → place_of v.passes other ≢ Out → p.caller ≢ Some other
    → of_caller other after.0.seen ≡ of_caller other v.seen
got_rest before after v p word caller other joined mine looks away differs =
    let now : after.0.seen ≡ log_of looks.0 = ap (λ (me : Seated). me.0.seen) looks.1 in
    let ne : other ≢ caller = λ same. differs (mine ∙ ap (λ (n : ℕ). Some n) (sym same)) in
    let place : place_of before.0.passes other ≡ place_of v.passes other = ap (λ (u : PassView). place_of u.passes other) joined
    ∙ ap (λ (o : Option ℕ). place_of (with_back v.passes o) other) mine ∙ get_or-set_other v.passes caller other Back Back ne in
    let known : IsAllOf before.0 other (of_caller other (log_of looks.0)) = looks.4 other (λ out. away (sym place ∙ out)) in
    ap (of_caller other) now ∙ known.seen (λ is. differs (sym (ap (λ (u : PassView). u.back) joined) ∙ is))
    ∙ ap (λ (u : PassView). of_caller other u.seen) joined

-- ---- the end

closed_slot : {callers : ℕ} {v : PassView} {slots : List (Option BookSeen)} (c : Closes callers v slots) (r : Option BookSeen)
    → get_elem? slots 0 ≡ some r → Some c.book ≡ r
closed_slot c r at = some-injective (Some c.book) r (sym c.slot ∙ at)

pub closed_none : {callers : ℕ} {v : PassView} {slots : List (Option BookSeen)} (c : Closes callers v slots) (r : Option BookSeen)
    → get_elem? slots 0 ≡ some r → r ≡ None → ⊥
closed_none c r at empty = let clash : Some c.book ≡ None = closed_slot c r at ∙ empty in absurd (cc)

pub closed_book : {callers : ℕ} {v : PassView} {slots : List (Option BookSeen)} (c : Closes callers v slots) (r : Option BookSeen) (book : BookSeen)
    → get_elem? slots 0 ≡ some r → r ≡ Some book
    → (length book.scripts ≡ callers) × (v.seen ≡ log_of book) × EachHasEntry book
    × ((caller : ℕ) → place_of v.passes caller ≡ NotMade → of_caller caller (log_of book) ≡ [])
closed_book {callers} {v} {slots} c r book at is =
    let both : Some c.book ≡ Some book = closed_slot c r at ∙ is in
    let one : c.book ≡ book = cc in
    subst (λ (b : BookSeen). (length b.scripts ≡ callers) × (v.seen ≡ log_of b) × EachHasEntry b
    × ((caller : ℕ) → place_of v.passes caller ≡ NotMade → of_caller caller (log_of b) ≡ [])) one (c.count, c.seen, c.each, c.nobody)
