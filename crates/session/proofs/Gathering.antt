-- The first entries of a history: what was written of their text, and what is gathered.
use Rattle.std.proofs.Common.{◌≡◌, ℕ, zero, suc, ◌+◌, List, [], ◌∷◌, ◌++◌, length, take, slice_get, refl, sym, ◌∙◌, ap, subst, arith, add-one}
use Rattle.std.proofs.Common.{append_assoc, Some}
use Rattle.std.specs.declared.option.Option.{Option}
use Rattle.std.specs.List.{AllByRecursion}
use Rattle.std.proofs.Math.Seq.{take-length}
use Rattle.plan_io.specs.declared.lines.ScriptLine.{ScriptLine}
use Rattle.plan_io.specs.declared.sink.PutAnswer.{PutAnswer}
use Rattle.plan_io.specs.declared.sink.PutAnswer.TheVariants as put
use Rattle.plan_io.specs.Sink.{Adds, Puts}
use Rattle.desk_events.specs.declared.entry.EventEntry.{EventEntry}
use Rattle.desk_events.specs.Entry.{text_of_history}
use Rattle.desk_events.specs.Laws.{IsWritableEntry}
use Rattle.desk_core.specs.Kept.{IsState}
use Rattle.desk_book.specs.Kept.{IsBook}
use Rattle.desk_book.specs.Seen.{BookSeen, IsOver}
use Rattle.desk_book.proofs.Whole.{over_is_whole}
use Rattle.session.specs.Session.{IsAnswered, IsPartlyAnswered, IsBrokenOff, WritesPrefix, Gathers, IsWrittenOn}
use Rattle.session.specs.LiveParts.{AddsEntryAt, HasGathered, TellsHistory}
use Rattle.session.proofs.Going.{gathers_more}
use Rattle.session.proofs.LineTexts.{adds_one}
use Rattle.session.proofs.Soundness.{book_sound, prefix_sound, none_sound}
use Rattle.session.proofs.Shows.{book_tells, prefix_tells}
use Rattle.session.proofs.Written.{adds_none, adds_twice, prefix_all, prefix_after, prefix_put, less_after}

-- of so many entries, which can be written, a prefix of the text was written and the rest is gathered
pub record Gathered (w w' : Option (List ℕ)) (history : List EventEntry) (count : ℕ) (replies : List ℕ) : Type 0 where
  pub writable : AllByRecursion IsWritableEntry (take count history)
  pub gathers : Gathers w w' replies (text_of_history (take count history))

pub gathered_none : (w : Option (List ℕ)) (history : List EventEntry) (replies : List ℕ) → replies ≡ [] → Gathered w w history 0 replies
gathered_none w history replies none = record { writable = tt; gathers = ([], adds_none w, sym none) }

-- ---- an entry more

take_next : (xs : List EventEntry) (n : ℕ) (x : EventEntry) → slice_get xs n ≡ Some x → take (suc n) xs ≡ take n xs ++ x ∷ []
take_next [] n x h = cc
take_next (y ∷ xs) zero x h = let same : y ≡ x = cc in ap (λ (z : EventEntry). z ∷ []) same
take_next (y ∷ xs) (suc n) x h = ap (λ (zs : List EventEntry). y ∷ zs) (take_next xs n x h)

writable_more : (xs : List EventEntry) (x : EventEntry) → AllByRecursion IsWritableEntry xs → IsWritableEntry x → AllByRecursion IsWritableEntry (xs ++ x ∷ [])
writable_more [] x h g = (g, tt)
writable_more (y ∷ xs) x h g = (h.0, writable_more xs x h.1 g)

pub gathered_entry : (w w' : Option (List ℕ)) (history : List EventEntry) (n : ℕ) (old new : List ℕ) → Gathered w w' history n old
    → AddsEntryAt history n old new
    → Gathered w w' history (n + 1) new
gathered_entry w w' history n old new g a =
    let longer : take n history ++ a.0 ∷ [] ≡ take (n + 1) history = sym (take_next history n a.0 a.1) ∙ ap (λ (k : ℕ). take k history) (sym (add-one n)) in
    record {
      writable = subst (λ (es : List EventEntry). AllByRecursion IsWritableEntry es) longer (writable_more (take n history) a.0 g.writable a.2);
      gathers = subst (λ (es : List EventEntry). Gathers w w' new (text_of_history es)) longer
          (gathers_more w w' old new (take n history) (a.0 ∷ []) g.gathers (adds_one old new a.0 a.3));
    }

-- ---- replies are written

pub gathered_written : (w x y : Option (List ℕ)) (history : List EventEntry) (n : ℕ) (old new : List ℕ) (found : PutAnswer) → found ≡ put.Done
    → Gathered w x history n old
    → IsWrittenOn x y found old new → Gathered w y history n new
gathered_written w x y history n old new found is g h =
    let told = g.gathers.0 in
    let written : IsWrittenOn x y put.Done old new = subst (λ (f : PutAnswer). IsWrittenOn x y f old new) is h in
    record {
      writable = g.writable;
      gathers = (
        told ++ written.0,
        adds_twice w x y told written.0 g.gathers.1 written.1,
        g.gathers.2 ∙ ap (λ (text : List ℕ). told ++ text) written.2 ∙ sym (append_assoc told written.0 new),
      );
    }

-- a write failed
pub told_fault : (w x y : Option (List ℕ)) (history : List EventEntry) (n : ℕ) (old new : List ℕ) (found : PutAnswer) → found ≡ put.WriteFault
    → Gathered w x history n old
    → IsWrittenOn x y found old new → TellsHistory w y history put.WriteFault
told_fault w x y history n old new found is g h =
    let failed : Puts x y put.WriteFault old = subst (λ (f : PutAnswer). IsWrittenOn x y f old new) is h in (
      n,
      g.writable,
      subst (λ (text : List ℕ). Puts w y put.WriteFault text) (sym g.gathers.2) (less_after w x y g.gathers.0 old g.gathers.1 failed),
    )

-- all entries are gathered, and what is left of their text is written
pub told_last : (w x y : Option (List ℕ)) (history : List EventEntry) (n : ℕ) (replies : List ℕ) (found : PutAnswer) → n ≡ length history
    → Gathered w x history n replies
    → Puts x y found replies → TellsHistory w y history found
told_last w x y history n replies put.Done all g h =
    let whole : take n history ≡ history = ap (λ (k : ℕ). take k history) all ∙ take-length history in (
      subst (λ (es : List EventEntry). AllByRecursion IsWritableEntry es) whole g.writable,
      subst (λ (es : List EventEntry). Adds w y (text_of_history es)) whole
          (subst (λ (text : List ℕ). Adds w y text) (sym g.gathers.2) (adds_twice w x y g.gathers.0 replies g.gathers.1 h)),
    )
told_last w x y history n replies put.WriteFault all g h = told_fault w x y history n replies [] put.WriteFault refl g h

-- memory was wanting: what is gathered stays
pub has_gathered : (w x : Option (List ℕ)) (history : List EventEntry) (n : ℕ) (old new : List ℕ) → Gathered w x history n old → new ≡ old
    → HasGathered w x history new
has_gathered w x history n old new g same = record {
  count = n;
  writable = g.writable;
  gathers = subst (λ (replies : List ℕ). Gathers w x replies (text_of_history (take n history))) (sym same) g.gathers;
}

-- ---- what that says of a book in which nothing is left to do

pub answered : (b : BookSeen) (w y : Option (List ℕ)) (found : PutAnswer) → found ≡ put.Done → IsBook b → IsState b.state
    → ((caller : ℕ) → IsOver b caller) → TellsHistory w y b.history found
    → IsAnswered b.scripts w y
answered b w y found is k state over h =
    let told : TellsHistory w y b.history put.Done = subst (TellsHistory w y b.history) is h in
    record { history = b.history; sound = book_sound b k; whole = over_is_whole b k over; telling = book_tells b k state told.0; written = told.1 }

pub broken_off : (b : BookSeen) (w y : Option (List ℕ)) (found : PutAnswer) → found ≡ put.WriteFault → IsBook b → IsState b.state
    → ((caller : ℕ) → IsOver b caller) → TellsHistory w y b.history found → IsBrokenOff b.scripts w y
broken_off b w y found is k state over h =
    let told : TellsHistory w y b.history put.WriteFault = subst (TellsHistory w y b.history) is h in
    record { history = take told.0 b.history; sound = prefix_sound b told.0 k over; telling = prefix_tells b told.0 k state told.1; less = told.2 }

-- all that could be written of what is gathered
prefix_most : (a b : Option (List ℕ)) (text : List ℕ) (found : PutAnswer) → Puts a b found text → WritesPrefix a b text
prefix_most a b text put.Done h = prefix_all a b text h
prefix_most a b text put.WriteFault h = prefix_put a b text h

pub partly_gathered : (b : BookSeen) (w x y : Option (List ℕ)) (replies : List ℕ) (found : PutAnswer) → IsBook b → IsState b.state
    → ((caller : ℕ) → IsOver b caller)
    → HasGathered w x b.history replies → Puts x y found replies → IsPartlyAnswered b.scripts w y
partly_gathered b w x y replies found k state over g h = record {
  history = take g.count b.history;
  sound = prefix_sound b g.count k over;
  telling = prefix_tells b g.count k state g.writable;
  prefix = subst (λ (text : List ℕ). WritesPrefix w y text) (sym g.gathers.2)
      (prefix_after w x y g.gathers.0 replies g.gathers.1 (prefix_most x y replies found h));
}

-- no entry
pub partly_none : (scripts : List (List ScriptLine)) (w : Option (List ℕ)) → IsPartlyAnswered scripts w w
partly_none scripts w = record { history = []; sound = none_sound scripts; telling = tt; prefix = (0, omega arith, adds_none w) }
