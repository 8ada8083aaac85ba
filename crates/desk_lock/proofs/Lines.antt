-- What is left of a caller's lines, and of those of the others, after one line more is done.
use Rattle.std.proofs.Common.{◌≡◌, ℕ, zero, suc, ◌+◌, ◌-◌, ◌<◌, List, [], ◌∷◌, ◌++◌, length, slice_set, refl, sym, ◌∙◌, ap, subst, arith, append_assoc}
use Rattle.std.proofs.Common.{Option, Some, None, true, Result, Ok, Err, OnOk, OnErr, get_or-set_same, get_or-set_other}
use Rattle.std.specs.declared.alloc.AllocError.{AllocError}
use Rattle.plan_base.specs.declared.taken.Taken.{Taken as TakenParts}
use Rattle.plan_base.specs.Solved.{SolvedTake}
use Rattle.desk_events.specs.declared.command.Command.{Command}
use Rattle.desk_events.specs.declared.entry.EventEntry.{EventEntry}
use Rattle.desk_events.specs.declared.entry.What.TheVariants.{Take}
use Rattle.desk_events.specs.declared.fault.CommandFault.{CommandFault}
use Rattle.desk_events.specs.declared.reply.Reply.TheVariants.{Taken}
use Rattle.desk_core.specs.History.{script_of}
use Rattle.desk_book.specs.declared.step.BookStep.{BookStep}
use Rattle.desk_book.specs.declared.step.BookStep.TheVariants as step
use Rattle.desk_book.specs.declared.step.PublishStep.{PublishStep}
use Rattle.desk_book.specs.declared.step.PublishStep.TheVariants as publish
use Rattle.desk_book.specs.Seen.{BookSeen, take_of, done_of, ends_line, IsOver, entry_of, with_entry, with_take}
use Rattle.desk_book.specs.Doing.{DoesTake, IsPerformed, IsPublished, IsAnswered}
use Rattle.desk_book.specs.Kept.{IsBook}
use Rattle.desk_book.proofs.Turns.{done_more, done_same, done_other}
use Rattle.desk_lock.specs.Finishing.{KeepsOthers, KeepsEntries, EndsLine}

-- ---- the steps of a line

-- a caller with an open Take is one
open_below : (takes : List (Option TakenParts)) (caller : ℕ) (t : TakenParts) → take_of takes caller ≡ Some t → caller < length takes
open_below [] zero t h = cc
open_below [] (suc n) t h = cc
open_below (x ∷ xs) zero t h = omega arith
open_below (x ∷ xs) (suc n) t h = let less : n < length xs = open_below xs n t h in omega arith

-- entries that stay from one book to the next, and from that to a third, stay
pub keeps_on : (b c d : BookSeen) → KeepsEntries b c → KeepsEntries c d → KeepsEntries b d
keeps_on b c d first later =
    (first.0 ++ later.0, later.1 ∙ ap (λ (es : List EventEntry). es ++ later.0) first.1 ∙ append_assoc b.history first.0 later.0)

-- only the Take of the caller's line is done
pub record BeginsLine (b : BookSeen) (caller : ℕ) (taken : TakenParts) (c : BookSeen) : Type 0 where
  pub scripts : c.scripts ≡ b.scripts
  pub kept : take_of c.takes caller ≡ Some taken
  pub named : taken.caller ≡ caller
  pub done : done_of caller c.history ≡ done_of caller b.history
  pub entries : KeepsEntries b c
  pub others : KeepsOthers b caller c

take_begins : (b : BookSeen) (caller : ℕ) (read : Result Command CommandFault) (taken : TakenParts) (c : BookSeen) → IsBook b → caller < length b.scripts
    → DoesTake b caller read taken c → BeginsLine b caller taken c
take_begins b caller read taken c k low does =
    let e : EventEntry = entry_of b caller Take Taken in
    let is : c ≡ with_take (with_entry b e b.state) caller (Some taken) = does.3 in
    let takes : c.takes ≡ slice_set b.takes caller (Some taken) = ap (λ (x : BookSeen). x.takes) is in
    let history : c.history ≡ b.history ++ e ∷ [] = ap (λ (x : BookSeen). x.history) is in
    let within : caller < length b.takes = omega (arith, k.as_many, low) in
    record {
      scripts = ap (λ (x : BookSeen). x.scripts) is;
      kept = ap (λ (ts : List (Option TakenParts)). take_of ts caller) takes ∙ get_or-set_same b.takes caller (Some taken) None within;
      named = does.2;
      done = ap (done_of caller) history ∙ done_same caller b.history e refl refl;
      entries = (e ∷ [], history);
      others = λ other differs. (
        ap (λ (ts : List (Option TakenParts)). take_of ts other) takes
            ∙ get_or-set_other b.takes caller other (Some taken) None differs,
        ap (done_of other) history ∙ done_other other b.history e (λ same. differs (sym same)),
      );
    }

pub performed_begins : (b : BookSeen) (caller : ℕ) (answer : BookStep) (taken : TakenParts) (c : BookSeen) → IsBook b → caller < length b.scripts
    → answer ≡ step.Taken taken
    → IsPerformed b caller answer c → BeginsLine b caller taken c
performed_begins b caller answer taken c k low is done =
    let took : IsPerformed b caller (step.Taken taken) c = subst (λ (x : BookStep). IsPerformed b caller x c) is done in
    take_begins b caller took.1.0 taken c k low took.1.2

published_ends : (b : BookSeen) (solved : SolvedTake) (e : EventEntry) (c : BookSeen) → IsPublished b solved e c → EndsLine b solved.taken.caller c
published_ends b solved e c p =
    let caller : ℕ = solved.taken.caller in
    let is : c ≡ _ = p.2 in
    let takes : c.takes ≡ slice_set b.takes caller None = ap (λ (x : BookSeen). x.takes) is in
    let history : c.history ≡ b.history ++ e ∷ [] = ap (λ (x : BookSeen). x.history) is in
    let mine : e.caller ≡ caller = ap (λ (x : EventEntry). x.caller) p.1 in
    let ends : ends_line e.what ≡ true = ap (λ (x : EventEntry). ends_line x.what) p.1 in
    record {
      scripts = ap (λ (x : BookSeen). x.scripts) is;
      shut = ap (λ (ts : List (Option TakenParts)). take_of ts caller) takes
          ∙ get_or-set_same b.takes caller None None (open_below b.takes caller solved.taken p.0);
      done = ap (done_of caller) history ∙ done_more caller b.history e mine ends;
      entries = (e ∷ [], history);
      others = λ other differs. (
        ap (λ (ts : List (Option TakenParts)). take_of ts other) takes ∙ get_or-set_other b.takes caller other None None differs,
        ap (done_of other) history ∙ done_other other b.history e (λ same. differs (sym same ∙ mine)),
      );
    }

-- what was found for the caller's open Take is always published
pub answered_ends : (b : BookSeen) (solved : SolvedTake) (answer : PublishStep) (c : BookSeen)
    → take_of b.takes solved.taken.caller ≡ Some solved.taken → IsAnswered b solved answer c
    → EndsLine b solved.taken.caller c
answered_ends b solved (publish.Replied e) c kept a = published_ends b solved e c a
answered_ends b solved publish.NotTaken c kept a = let clash : None ≡ Some solved.taken = sym a.0 ∙ kept in absurd (cc)
answered_ends b solved publish.OtherTake c kept a = absurd (a.1 kept)

pub begun_ends : (b : BookSeen) (caller : ℕ) (taken : TakenParts) (c d : BookSeen) → BeginsLine b caller taken c → EndsLine c caller d → EndsLine b caller d
begun_ends b caller taken c d begins ends = record {
  scripts = ends.scripts ∙ begins.scripts;
  shut = ends.shut;
  done = ends.done ∙ ap (λ (n : ℕ). n + 1) begins.done;
  entries = keeps_on b c d begins.entries ends.entries;
  others = λ other differs. (
    (ends.others other differs).0 ∙ (begins.others other differs).0,
    (ends.others other differs).1 ∙ (begins.others other differs).1,
  );
}

-- the callers' lines are the same, also where memory is wanting
pub same_scripts : (r : Result (Unit {0}) AllocError) (b : BookSeen) (caller : ℕ) (c : BookSeen) → OnOk r (EndsLine b caller c)
    → OnErr r (c ≡ b) → c.scripts ≡ b.scripts
same_scripts (Ok done) b caller c ok err = ok.scripts
same_scripts (Err error) b caller c ok err = ap (λ (x : BookSeen). x.scripts) err

-- ---- all lines of a caller

-- so far lines of this caller alone were done
pub record GoesOn (b : BookSeen) (caller : ℕ) (c : BookSeen) : Type 0 where
  pub scripts : c.scripts ≡ b.scripts
  pub entries : KeepsEntries b c
  pub others : KeepsOthers b caller c

-- how many lines of the caller are left
abbrev pub left_of : ℕ → BookSeen → ℕ
left_of caller b = length (script_of b.scripts caller) - done_of caller b.history

-- ---- all lines of all callers

-- those of the first callers are done, so many
pub record EndsFirst (count : ℕ) (b c : BookSeen) : Type 0 where
  pub scripts : c.scripts ≡ b.scripts
  pub over : (caller : ℕ) → caller < count → IsOver c caller
  pub entries : KeepsEntries b c
