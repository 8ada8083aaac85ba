-- The lines that are read and done, what was written of their replies, and what is gathered.
use Rattle.std.proofs.Common.{◌≡◌, ℕ, ◌+◌, ◌≤◌, ◌<◌, List, [], ◌∷◌, ◌++◌, length, true, false, ◌⊎◌, refl, sym}
use Rattle.std.proofs.Common.{◌∙◌, ap, subst, arith, inl, inr, Result, Ok, Err, OnErr, append_assoc, append-nil}
use Rattle.std.specs.List.{AllByRecursion}
use Rattle.std.specs.declared.option.Option.{Option}
use Rattle.std.specs.declared.alloc.AllocError.{AllocError}
use Rattle.plan_io.specs.declared.lines.ScriptLine.{ScriptLine}
use Rattle.plan_io.specs.declared.lines.LineAnswer.{LineAnswer}
use Rattle.plan_io.specs.declared.lines.LineAnswer.TheVariants as answer
use Rattle.plan_io.specs.declared.sink.PutAnswer.{PutAnswer}
use Rattle.plan_io.specs.declared.sink.PutAnswer.TheVariants as put
use Rattle.plan_io.specs.LinesSeen.{LinesSeen, IsFresh, IsWithin, HasLine}
use Rattle.plan_io.specs.Next.{ReadsOn, IsNext, IsNextCause, IsLine}
use Rattle.plan_io.specs.Reading.{HasAnswered}
use Rattle.plan_io.specs.Sink.{Adds, Puts, IsPutCause}
use Rattle.plan_io.proofs.Loops.{so_far_start, so_far_line, so_far_ends, so_far_first, so_far_cut}
use Rattle.desk_events.specs.declared.entry.EventEntry.{EventEntry}
use Rattle.desk_events.specs.Line.{command_of_line}
use Rattle.desk_events.specs.Entry.{text_of_entry, text_of_history}
use Rattle.desk_events.specs.Laws.{IsTelling}
use Rattle.desk_core.specs.Desk.{StateSeen, start}
use Rattle.plan_io.specs.Limits.{most_input_bytes, most_input_lines}
use Rattle.session.specs.Line.{DoesLine, BeginsLine, AddsLine}
use Rattle.session.specs.Session.{WritesPrefix, Gathers, IsGathered, IsCutOff, IsUnwritten, IsEnded, IsWrittenOn}
use Rattle.session.proofs.Done.{AreDone, done_none, one_more, are_more, does_version, sound_done, sound_begun, whole_done}
use Rattle.session.proofs.Telling.{telling_more}
use Rattle.session.proofs.Written.{adds_none, adds_twice, prefix_all, prefix_after, prefix_put, less_after}

-- the reader of a session before the first line
abbrev pub first_reader : LinesSeen
first_reader = record {
  held = [];
  long = false;
  taken = 0;
  answered = 0;
  most_bytes = most_input_bytes;
  most_lines = most_input_lines;
  failed = false;
  ended = false;
}

-- so many lines were read and done, of a source that had a left, and the replies are what isn't written yet of their text
pub record Going (a b w w' : Option (List ℕ)) (reader : LinesSeen) (replies : List ℕ) (done : ℕ) (s : StateSeen) : Type 0 where
  pub lines : List ScriptLine
  pub history : List EventEntry
  pub read : HasAnswered first_reader a lines reader b
  pub are : AreDone lines history s
  pub telling : AllByRecursion IsTelling history
  pub count : length lines ≡ done
  pub gathers : Gathers w w' replies (text_of_history history)
  pub version : s.version ≤ done
  pub few : length lines ≤ 65536
  pub bytes : reader.taken ≤ reader.most_bytes
  pub within : reader.answered ≤ reader.most_lines

pub going_start : (a w : Option (List ℕ)) (replies : List ℕ) → replies ≡ [] → Going a a w w first_reader replies 0 start
going_start a w replies none = record {
  lines = [];
  history = [];
  read = so_far_start first_reader a refl;
  are = done_none;
  telling = tt;
  count = refl;
  gathers = ([], adds_none w, sym none);
  version = omega arith;
  few = omega arith;
  bytes = omega arith;
  within = omega arith;
}

pub going_first : (a w : Option (List ℕ)) (reader : LinesSeen) (replies : List ℕ) (s : StateSeen) → reader ≡ first_reader → replies ≡ [] → s ≡ start
    → Going a a w w reader replies 0 s
going_first a w reader replies s first none new =
    subst (λ (r : LinesSeen). Going a a w w r replies 0 s) (sym first)
    (subst (λ (t : StateSeen). Going a a w w first_reader replies 0 t) (sym new) (going_start a w replies none))

-- ---- replies are written

pub going_written : (a b w x y : Option (List ℕ)) (reader : LinesSeen) (old new : List ℕ) (done : ℕ) (s : StateSeen) → Going a b w x reader old done s
    → IsWrittenOn x y put.Done old new
    → Going a b w y reader new done s
going_written a b w x y reader old new done s d h =
    let told = d.gathers.0 in
    record {
      lines = d.lines;
      history = d.history;
      read = d.read;
      are = d.are;
      telling = d.telling;
      count = d.count;
      gathers = (
        told ++ h.0,
        adds_twice w x y told h.0 d.gathers.1 h.1,
        d.gathers.2 ∙ ap (λ (text : List ℕ). told ++ text) h.2
            ∙ sym (append_assoc told h.0 new),
      );
      version = d.version;
      few = d.few;
      bytes = d.bytes;
      within = d.within;
    }

-- where no write failed
pub going_due : (a b w x y : Option (List ℕ)) (reader : LinesSeen) (old new : List ℕ) (done : ℕ) (s : StateSeen) (found : PutAnswer)
    → found ≡ put.Done → Going a b w x reader old done s
    → IsWrittenOn x y found old new → Going a b w y reader new done s
going_due a b w x y reader old new done s found is d h =
    going_written a b w x y reader old new done s d (subst (λ (f : PutAnswer). IsWrittenOn x y f old new) is h)

pub later_written : (before now : ℕ) (found : PutAnswer) → found ≡ put.Done → IsPutCause before now found → before ≤ now
later_written before now found is h = subst (λ (f : PutAnswer). IsPutCause before now f) is h

-- ---- a line more

text_more : (xs ys : List EventEntry) → text_of_history (xs ++ ys) ≡ text_of_history xs ++ text_of_history ys
text_more [] ys = refl
text_more (x ∷ xs) ys = ap (λ (text : List ℕ). text_of_entry x ++ text) (text_more xs ys)
    ∙ sym (append_assoc (text_of_entry x) (text_of_history xs) (text_of_history ys))

pub gathers_more : (w w' : Option (List ℕ)) (old new : List ℕ) (h es : List EventEntry) → Gathers w w' old (text_of_history h) → new ≡ old ++ text_of_history es
    → Gathers w w' new (text_of_history (h ++ es))
gathers_more w w' old new h es g e = (
  g.0,
  g.1,
  text_more h es ∙ ap (λ (text : List ℕ). text ++ text_of_history es) g.2 ∙ append_assoc g.0 old (text_of_history es)
      ∙ ap (λ (text : List ℕ). g.0 ++ text) (sym e),
)

-- so many lines were answered
pub answered_count : (first : LinesSeen) (a b : Option (List ℕ)) (lines : List ScriptLine) (reader : LinesSeen) → HasAnswered first a lines reader b
    → reader.answered ≡ first.answered + length lines
answered_count first a b lines reader (inl h) = h.0.2.answered
answered_count first a b lines reader (inr h) = h.answered

pub most_stays : (first : LinesSeen) (a b : Option (List ℕ)) (lines : List ScriptLine) (reader : LinesSeen) → HasAnswered first a lines reader b
    → reader.most_lines ≡ first.most_lines
most_stays first a b lines reader (inl h) = h.0.2.most_lines
most_stays first a b lines reader (inr h) = h.most_lines

-- once the reader came to the end it says so again, and takes nothing
abbrev pub StaysEnded : LinesSeen → Option (List ℕ) → Option (List ℕ) → LineAnswer → Type 0
StaysEnded reader b c found = reader.ended ≡ true → IsFresh reader → (c ≡ b) × (found ≡ answer.End)

first_fresh : IsFresh first_reader
first_fresh = record { held = refl; long = refl }

pub record NextLine (a b c w w' : Option (List ℕ)) (old new : LinesSeen) (replies : List ℕ) (done : ℕ) (s : StateSeen) (line : ScriptLine) : Type 0 where
  pub going : Going a b w w' old replies done s
  pub read : HasAnswered first_reader a (going.lines ++ line ∷ []) new c
  pub few : length (going.lines ++ line ∷ []) ≤ 65536
  pub bytes : new.taken ≤ new.most_bytes
  pub within : new.answered ≤ new.most_lines
  pub steady : new.failed ≡ false

pub next_line : (a b c w w' : Option (List ℕ)) (old new : LinesSeen) (replies : List ℕ) (done : ℕ) (s : StateSeen) (line : ScriptLine) (found : LineAnswer)
    → found ≡ answer.Line line → Going a b w w' old replies done s → IsNext old b new c found → StaysEnded old b c found
    → NextLine a b c w w' old new replies done s line
next_line a b c w w' old new replies done s line found is d next stays =
    let here : IsNext old b new c (answer.Line line) = subst (IsNext old b new c) is next in
    let read : HasAnswered first_reader a (d.lines ++ line ∷ []) new c =
    so_far_line first_reader old new a b c d.lines line first_fresh d.read here (λ e f. sym is ∙ (stays e f).1) in
    let within : new.answered ≤ new.most_lines = here.2 in
    record {
      going = d;
      read = read;
      few = omega (arith, answered_count first_reader a c (d.lines ++ line ∷ []) new read, most_stays first_reader a c (d.lines ++ line ∷ []) new read, within);
      bytes = here.1;
      within = within;
      steady = here.3;
    }

pub later_read : (old : LinesSeen) (before now : ℕ) (found : LineAnswer) (line : ScriptLine) → found ≡ answer.Line line
    → IsNextCause old before now found → before ≤ now
later_read old before now found line is h = subst (IsNextCause old before now) is h

pub few_done : (a b c w w' : Option (List ℕ)) (old new : LinesSeen) (replies : List ℕ) (done : ℕ) (s : StateSeen) (line : ScriptLine)
    → NextLine a b c w w' old new replies done s line → done + 1 ≤ 65536
few_done a b c w w' old new replies done s line n = omega (arith, n.few, one_more n.going.lines line, n.going.count)

-- there is room for the line
room : (lines : List ScriptLine) (line : ScriptLine) → length (lines ++ line ∷ []) ≤ 65536 → length lines < 65536
room lines line few = omega (arith, one_more lines line, few)

-- the line was done
pub going_line : (a b c w w' : Option (List ℕ)) (old new : LinesSeen) (replies after : List ℕ) (done : ℕ) (s t : StateSeen)
    (line : ScriptLine) (unit : Unit {0})
    → NextLine a b c w w' old new replies done s line → AddsLine s t (done + 1) (command_of_line line) replies after (Ok unit)
    → Going a c w w' new after (done + 1) t
going_line a b c w w' old new replies after done s t line unit n l =
    let d = n.going in
    let version = d.version in
    let does : DoesLine s (length d.lines + 1) (command_of_line line) l.0 t =
    subst (λ (k : ℕ). DoesLine s (k + 1) (command_of_line line) l.0 t) (sym d.count) l.1 in
    record {
      lines = d.lines ++ line ∷ [];
      history = d.history ++ l.0;
      read = n.read;
      are = are_more d.lines line d.history l.0 s t d.are (room d.lines line n.few) does;
      telling = telling_more d.history l.0 d.telling l.3;
      count = sym (one_more d.lines line) ∙ ap (λ (k : ℕ). k + 1) d.count;
      gathers = gathers_more w w' replies after d.history l.0 d.gathers l.2;
      version = omega (arith, does_version s t (done + 1) (command_of_line line) l.0 l.1);
      few = n.few;
      bytes = n.bytes;
      within = n.within;
    }

-- ---- endings

-- what is gathered of the lines that are done
pub gathered_here : (a b w w' : Option (List ℕ)) (reader : LinesSeen) (replies : List ℕ) (done : ℕ) (s : StateSeen)
    → Going a b w w' reader replies done s → IsGathered a b w w' replies
gathered_here a b w w' reader replies done s d = record {
  lines = d.lines;
  read = so_far_first first_reader reader a b d.lines first_fresh refl refl d.bytes d.within d.read;
  history = d.history;
  sound = sound_done d.lines d.history s d.are;
  telling = d.telling;
  gathers = d.gathers;
}

-- before the first line
pub gathered_none : (a w : Option (List ℕ)) (replies : List ℕ) → replies ≡ [] → IsGathered a a w w replies
gathered_none a w replies none = gathered_here a a w w first_reader replies 0 start (going_start a w replies none)

-- memory was wanting where the reader read on for a line
pub gathered_read : (a b c w w' : Option (List ℕ)) (old new : LinesSeen) (replies : List ℕ) (done : ℕ) (s : StateSeen)
    → Going a b w w' old replies done s → ReadsOn old b [] new c → IsWithin new
    → (old.ended ≡ true → IsFresh old → ⊥) → IsGathered a c w w' replies
gathered_read a b c w w' old new replies done s d more within goes_on = record {
  lines = d.lines;
  read = so_far_cut first_reader old new a b c d.lines first_fresh refl refl d.read more within goes_on;
  history = d.history;
  sound = sound_done d.lines d.history s d.are;
  telling = d.telling;
  gathers = d.gathers;
}

-- memory was wanting within a line
pub gathered_line : (a b c w w' : Option (List ℕ)) (old new : LinesSeen) (replies after : List ℕ) (done : ℕ) (s t : StateSeen)
    (line : ScriptLine) (error : AllocError)
    → NextLine a b c w w' old new replies done s line
    → AddsLine s t (done + 1) (command_of_line line) replies after (Err error) → IsGathered a c w w' after
gathered_line a b c w w' old new replies after done s t line error n l =
    let d = n.going in
    let begins : BeginsLine s (length d.lines + 1) (command_of_line line) l.0 =
    subst (λ (k : ℕ). BeginsLine s (k + 1) (command_of_line line) l.0) (sym d.count) l.1 in
    record {
      lines = d.lines ++ line ∷ [];
      read = so_far_first first_reader new a c (d.lines ++ line ∷ []) first_fresh refl refl n.bytes n.within n.read;
      history = d.history ++ l.0;
      sound = sound_begun d.lines line d.history l.0 s d.are (room d.lines line n.few) begins;
      telling = telling_more d.history l.0 d.telling l.3;
      gathers = gathers_more w w' replies after d.history l.0 d.gathers l.2;
    }

-- what was gathered was written as far as it could be
cut_off : (a b w x y : Option (List ℕ)) (replies : List ℕ) → IsGathered a b w x replies → WritesPrefix x y replies → IsCutOff a b w y
cut_off a b w x y replies g f = record {
  lines = g.lines;
  read = g.read;
  answered = record {
    history = g.history;
    sound = g.sound;
    telling = g.telling;
    prefix = subst (λ (text : List ℕ). WritesPrefix w y text) (sym g.gathers.2) (prefix_after w x y g.gathers.0 replies g.gathers.1 f);
  };
}

-- a write of what was gathered failed
broken_off : (a b w x y : Option (List ℕ)) (replies : List ℕ) → IsGathered a b w x replies → Puts x y put.WriteFault replies → IsUnwritten a b w y
broken_off a b w x y replies g p = record {
  lines = g.lines;
  read = g.read;
  answered = record {
    history = g.history;
    sound = g.sound;
    telling = g.telling;
    less = subst (λ (text : List ℕ). Puts w y put.WriteFault text) (sym g.gathers.2) (less_after w x y g.gathers.0 replies g.gathers.1 p);
  };
}

-- where a write of what is due failed
pub broken_by_due : (a b w x y : Option (List ℕ)) (reader : LinesSeen) (old new : List ℕ) (done : ℕ) (s : StateSeen) (found : PutAnswer)
    → found ≡ put.WriteFault → Going a b w x reader old done s
    → IsWrittenOn x y found old new → IsUnwritten a b w y
broken_by_due a b w x y reader old new done s found is d h =
    broken_off a b w x y old (gathered_here a b w x reader old done s d) (subst (λ (f : PutAnswer). IsWrittenOn x y f old new) is h)

-- what is gathered where memory is wanting
pub on_err : {T : Type 0} (P : Type 0) (result : Result T AllocError) → P → OnErr result P
on_err P (Ok found) h = tt
on_err P (Err error) h = h

pub cut_by_memory : (a b w x y : Option (List ℕ)) (replies : List ℕ) (found : PutAnswer) → IsGathered a b w x replies
    → Puts x y found replies → IsCutOff a b w y
cut_by_memory a b w x y replies put.Done g p = cut_off a b w x y replies g (prefix_all x y replies p)
cut_by_memory a b w x y replies put.WriteFault g p = cut_off a b w x y replies g (prefix_put x y replies p)

is_none : (ending : LineAnswer) → ((line : ScriptLine) → ending ≡ answer.Line line → ⊥) → IsLine ending → ⊥
is_none (answer.Line line) unlike h = unlike line refl
is_none answer.End unlike h = h
is_none answer.ReadFault unlike h = h
is_none answer.InputOver unlike h = h

-- where the reader answers that there is no line, no whole line was at hand, and so no reply is left
pub no_line_left : (reader : LinesSeen) (replies : List ℕ) (found ending : LineAnswer) → ((line : ScriptLine) → ending ≡ answer.Line line → ⊥)
    → found ≡ ending → HasLine reader ⊎ (replies ≡ [])
    → (HasLine reader → IsLine found) → replies ≡ []
no_line_left reader replies found ending unlike is (inr none) at_hand = none
no_line_left reader replies found ending unlike is (inl has) at_hand = absurd (is_none ending unlike (subst IsLine is (at_hand has)))

-- the lines came to an end
pub all_answered : (a b c w w' : Option (List ℕ)) (old new : LinesSeen) (replies : List ℕ) (done : ℕ) (s : StateSeen) (found : LineAnswer)
    → replies ≡ [] → Going a b w w' old replies done s
    → IsNext old b new c found → StaysEnded old b c found → ((line : ScriptLine) → found ≡ answer.Line line → ⊥) → IsEnded found a c w w'
all_answered a b c w w' old new replies done s found none d next stays unlike = record {
  lines = d.lines;
  read = so_far_ends first_reader old new a b c d.lines found first_fresh refl refl d.bytes d.within d.read next stays unlike;
  answered = record {
    history = d.history;
    sound = sound_done d.lines d.history s d.are;
    whole = whole_done d.lines d.history s d.are;
    telling = d.telling;
    written = subst (λ (text : List ℕ). Adds w w' text)
        (sym (d.gathers.2 ∙ ap (λ (text : List ℕ). d.gathers.0 ++ text) none ∙ append-nil d.gathers.0)) d.gathers.1;
  };
}
