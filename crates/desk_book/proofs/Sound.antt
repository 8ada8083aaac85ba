-- A book, and what each call makes of it.
use Rattle.std.proofs.Common.{◌≡◌, ◌≢◌, ℕ, zero, suc, ◌*◌, ◌≤◌, ◌<◌, ◌⊎◌, List, [], ◌∷◌, ◌++◌, length, sum, get_or, replicate, true, false, refl}
use Rattle.std.proofs.Common.{sym, ◌∙◌, ap, subst, arith, inl, inr, Some, None, Result, append_assoc, append-nil, length-append, get_or-set_same}
use Rattle.std.proofs.Common.{get_or-set_other}
use Rattle.std.specs.declared.option.Option.{Option}
use Rattle.std.specs.Option.{is_some}
use Rattle.std.specs.Prelude.{slice_set}
use Rattle.std.proofs.lemmas.List.{length-set}
use Rattle.std.proofs.lemmas.Option.{slice_get_within}
use Rattle.plan_base.specs.declared.taken.Taken.{Taken as TakenParts}
use Rattle.plan_io.specs.declared.lines.ScriptLine.{ScriptLine}
use Rattle.plan_json.specs.Ranges.{IsBetween}
use Rattle.desk_events.specs.declared.command.Command.{Command}
use Rattle.desk_events.specs.declared.fault.CommandFault.{CommandFault}
use Rattle.desk_core.specs.Desk.{start}
use Rattle.desk_core.specs.History.{script_of, turns_of, IsEntry}
use Rattle.desk_book.specs.Claims.{IsClaimEntry}
use Rattle.desk_book.specs.Doing.{SaysNext}
use Rattle.desk_book.specs.Kept.{IsPlace, IsBook, GoOn, IsKept, IsSound, AreCounted}
use Rattle.desk_book.specs.Seen.{BookSeen, empty_book, take_of, done_of, with_line}
use Rattle.desk_book.proofs.Counting.{sum_below}
use Rattle.desk_book.proofs.Histories.{each_none}
use Rattle.desk_book.proofs.Keeping.{same_or_other}
use Rattle.desk_book.proofs.Places.{place_as, place_longer, place_low, place_order}

-- ---- the book as callers see it

pub stay : (scripts : List (List ScriptLine)) → GoOn scripts scripts
stay scripts caller = ([], sym (append-nil (script_of scripts caller)))

pub book_of : (b : BookSeen) → IsSound b → IsBook b
book_of b s =
    let k : IsKept b.scripts b.history b.state b.takes = s.kept b.scripts (stay b.scripts) in
    record {
      callers = s.callers;
      as_many = s.as_many;
      few = s.few;
      legal = record {
        order = λ caller. place_order (script_of b.scripts caller) (turns_of caller b.history) (done_of caller b.history)
            (is_some (take_of b.takes caller)) (s.places caller);
        each = k.each;
      };
      left = k.left;
      claims = k.claims;
      places = s.places;
      opens = k.opens;
    }

-- ---- a new book

script_none : (n caller : ℕ) → script_of (replicate n []) caller ≡ []
script_none zero caller = refl
script_none (suc n) zero = refl
script_none (suc n) (suc caller) = script_none n caller

take_none : (n caller : ℕ) → take_of (replicate n None) caller ≡ None
take_none zero caller = refl
take_none (suc n) zero = refl
take_none (suc n) (suc caller) = take_none n caller

count_none : (n caller : ℕ) → get_or {A = ℕ} (replicate n 0) caller 0 ≡ 0
count_none zero caller = refl
count_none (suc n) zero = refl
count_none (suc n) (suc caller) = count_none n caller

length_none : {A : Type 0} (n : ℕ) (x : A) → length (replicate n x) ≡ n
length_none zero x = refl
length_none (suc n) x = ap suc (length_none n x)

empty_kept : (n : ℕ) (longer : List (List ScriptLine)) → IsKept longer [] start (replicate n None)
empty_kept n longer = record {
  each = each_none (IsEntry longer);
  left = refl;
  claims = each_none (IsClaimEntry longer);
  opens = λ caller t is. (let clash : None ≡ Some t = sym (take_none n caller) ∙ is in absurd (cc));
}

pub sound_new : (n : ℕ) → IsBetween 1 8 n → IsSound (empty_book n)
sound_new n few = record {
  callers = subst (λ (k : ℕ). IsBetween 1 8 k) (sym (length_none {A = List ScriptLine} n [])) few;
  as_many = length_none {A = Option TakenParts} n None ∙ sym (length_none {A = List ScriptLine} n []);
  few = λ caller. (let none : length (script_of (replicate n []) caller) ≡ 0 = ap length (script_none n caller) in omega arith);
  kept = λ longer more. empty_kept n longer;
  places = λ caller.
      (let none : false ≡ is_some (take_of (replicate n None) caller) = ap is_some (sym (take_none n caller)) in
      place_as (script_of (replicate n []) caller) [] [] 0 0 false (is_some (take_of (replicate n None) caller)) refl refl none (omega arith, refl));
  behind = λ caller t is. (let clash : None ≡ Some t = sym (take_none n caller) ∙ is in absurd (cc));
}

pub counted_new : (n : ℕ) → AreCounted (empty_book n) (replicate n 0)
counted_new n = record {
  as_many = length_none {A = ℕ} n 0 ∙ sym (length_none {A = List ScriptLine} n []);
  each = λ caller. count_none n caller;
  changes = omega arith;
}

-- ---- a line more

-- a script with one line more, or the same
script_by : (scripts : List (List ScriptLine)) (caller other : ℕ) (line : ScriptLine) → caller < length scripts → (caller ≡ other) ⊎ (caller ≢ other)
    → (rest : List ScriptLine) × (script_of (slice_set scripts caller (script_of scripts caller ++ line ∷ [])) other ≡ script_of scripts other
    ++ rest) × (length rest ≤ 1)
    × (caller ≢ other → rest ≡ [])
script_by scripts caller other line low (inl same) =
    let longer : List ScriptLine = script_of scripts caller ++ line ∷ [] in (
      line ∷ [],
      ap (script_of (slice_set scripts caller longer)) (sym same) ∙ get_or-set_same scripts caller longer [] low
          ∙ ap (λ (k : ℕ). script_of scripts k ++ line ∷ []) same,
      omega arith,
      λ differs. absurd (differs same),
    )
script_by scripts caller other line low (inr differs) =
    let longer : List ScriptLine = script_of scripts caller ++ line ∷ [] in (
      [],
      get_or-set_other scripts caller other longer [] (λ same. differs (sym same)) ∙ sym (append-nil (script_of scripts other)),
      omega arith,
      λ differ. refl,
    )

-- each script goes on
pub longer_scripts : (scripts : List (List ScriptLine)) (caller : ℕ) (line : ScriptLine) → caller < length scripts
    → GoOn scripts (slice_set scripts caller (script_of scripts caller ++ line ∷ []))
longer_scripts scripts caller line low other =
    let it = script_by scripts caller other line low (same_or_other caller other) in (it.0, it.1)

pub go_further : (scripts more longer : List (List ScriptLine)) → GoOn scripts more → GoOn more longer → GoOn scripts longer
go_further scripts more longer h g caller = (
  (h caller).0 ++ (g caller).0,
  (g caller).1 ∙ ap (λ (lines : List ScriptLine). lines ++ (g caller).0) (h caller).1 ∙ append_assoc (script_of scripts caller) (h caller).0 (g caller).0,
)

-- no script is too long
few_by : (scripts : List (List ScriptLine)) (caller other : ℕ) (line : ScriptLine) → caller < length scripts → length (script_of scripts caller) < 65536
    → ((k : ℕ) → length (script_of scripts k) ≤ 65536) → (caller ≡ other) ⊎ (caller ≢ other)
    → length (script_of (slice_set scripts caller (script_of scripts caller ++ line ∷ [])) other) ≤ 65536
few_by scripts caller other line low room few (inl same) =
    let longer : List ScriptLine = script_of scripts caller ++ line ∷ [] in
    let is : length (script_of (slice_set scripts caller longer) other) ≡ length longer =
    ap (λ (k : ℕ). length (script_of (slice_set scripts caller longer) k)) (sym same) ∙ ap length (get_or-set_same scripts caller longer [] low) in
    omega (arith, length-append (script_of scripts caller) (line ∷ []))
few_by scripts caller other line low room few (inr differs) =
    let longer : List ScriptLine = script_of scripts caller ++ line ∷ [] in
    let is : length (script_of (slice_set scripts caller longer) other) ≡ length (script_of scripts other) =
    ap length (get_or-set_other scripts caller other longer [] (λ same. differs (sym same))) in
    let most : length (script_of scripts other) ≤ 65536 = few other in
    omega arith

pub sound_line : (b : BookSeen) (caller : ℕ) (line : ScriptLine) → IsSound b → caller < length b.scripts → length (script_of b.scripts caller) < 65536
    → IsSound (with_line b caller line)
sound_line b caller line s low room =
    let scripts : List (List ScriptLine) = slice_set b.scripts caller (script_of b.scripts caller ++ line ∷ []) in
    let as_many : length scripts ≡ length b.scripts = length-set b.scripts caller (script_of b.scripts caller ++ line ∷ []) in
    let more : GoOn b.scripts scripts = longer_scripts b.scripts caller line low in
    record {
      callers = subst (λ (k : ℕ). IsBetween 1 8 k) (sym as_many) s.callers;
      as_many = s.as_many ∙ sym as_many;
      few = λ other. few_by b.scripts caller other line low room s.few (same_or_other caller other);
      kept = λ longer on. s.kept longer (go_further b.scripts scripts longer more on);
      places = λ other.
          subst (λ (lines : List ScriptLine). IsPlace lines (turns_of other b.history) (done_of other b.history) (is_some (take_of b.takes other)))
          (sym (more other).1)
          (place_longer (script_of b.scripts other) (more other).0 (turns_of other b.history) (done_of other b.history)
          (is_some (take_of b.takes other)) (s.places other));
      behind = s.behind;
    }

pub counted_line : (b : BookSeen) (done : List ℕ) (caller : ℕ) (line : ScriptLine) → AreCounted b done → AreCounted (with_line b caller line) done
counted_line b done caller line c = record {
  as_many = c.as_many ∙ sym (length-set b.scripts caller (script_of b.scripts caller ++ line ∷ []));
  each = c.each;
  changes = c.changes;
}

-- ---- how far callers have come

-- the place of a caller that has no open Take, and of one that has one
pub shut_place : (b : BookSeen) (caller : ℕ) → IsSound b → take_of b.takes caller ≡ None
    → IsPlace (script_of b.scripts caller) (turns_of caller b.history) (done_of caller b.history) false
shut_place b caller s shut =
    place_as (script_of b.scripts caller) (turns_of caller b.history) (turns_of caller b.history) (done_of caller b.history)
    (done_of caller b.history) (is_some (take_of b.takes caller))
    false refl refl (ap is_some shut) (s.places caller)

pub open_place : (b : BookSeen) (caller : ℕ) (t : TakenParts) → IsSound b → take_of b.takes caller ≡ Some t
    → IsPlace (script_of b.scripts caller) (turns_of caller b.history) (done_of caller b.history) true
open_place b caller t s is =
    place_as (script_of b.scripts caller) (turns_of caller b.history) (turns_of caller b.history) (done_of caller b.history)
    (done_of caller b.history) (is_some (take_of b.takes caller))
    true refl refl (ap is_some is) (s.places caller)

pub next_below : (b : BookSeen) (caller : ℕ) (read : Result Command CommandFault) → SaysNext b caller read
    → done_of caller b.history < length (script_of b.scripts caller)
next_below b caller read n = slice_get_within (script_of b.scripts caller) (done_of caller b.history) n.0 n.1

-- a caller with an open Take is one of the callers
past_end : (takes : List (Option TakenParts)) (caller : ℕ) (t : TakenParts) → take_of takes caller ≡ Some t → caller < length takes
past_end [] caller t is = cc
past_end (x ∷ takes) zero t is = omega arith
past_end (x ∷ takes) (suc caller) t is = let low : caller < length takes = past_end takes caller t is in omega arith

pub open_caller : (b : BookSeen) (caller : ℕ) (t : TakenParts) → IsSound b → take_of b.takes caller ≡ Some t → caller < length b.scripts
open_caller b caller t s is = let low : caller < length b.takes = past_end b.takes caller t is in let same = s.as_many in omega arith

-- a caller has done few lines
pub few_done : (b : BookSeen) (caller : ℕ) → IsSound b → done_of caller b.history ≤ 65536
few_done b caller s =
    let few : length (script_of b.scripts caller) ≤ 65536 = s.few caller in
    let low : done_of caller b.history ≤ length (script_of b.scripts caller) =
    place_low (script_of b.scripts caller) (turns_of caller b.history) (done_of caller b.history) (is_some (take_of b.takes caller)) (s.places caller) in
    omega arith

-- the state has few changes, where a line is left
pub few_changes : (b : BookSeen) (done : List ℕ) (caller : ℕ) → IsSound b → AreCounted b done → caller < length b.scripts
    → done_of caller b.history < length (script_of b.scripts caller)
    → b.state.version < 524288
few_changes b done caller s c low left =
    let each : (k : ℕ) → get_or done k 0 ≤ 65536 = λ k. (let is : get_or done k 0 ≡ done_of k b.history = c.each k in
    let few : done_of k b.history ≤ 65536 = few_done b k s in omega arith) in
    let same = c.as_many in
    let here : get_or done caller 0 ≡ done_of caller b.history = c.each caller in
    let few : length (script_of b.scripts caller) ≤ 65536 = s.few caller in
    let below : caller < length done = omega arith in
    let less : get_or done caller 0 < 65536 = omega arith in
    let total : sum done < length done * 65536 = sum_below done caller each below less in
    let most = s.callers.high in
    let changes = c.changes in
    omega arith
