-- Lines of one caller that are done, and one line more.
use Rattle.std.proofs.Common.{◌≡◌, ℕ, zero, suc, ◌+◌, ◌≤◌, ◌<◌, List, [], ◌∷◌, ◌++◌, length, slice_get, refl, sym, ◌∙◌, ap, subst, arith, inl, inr}
use Rattle.std.proofs.Common.{Some, None, Result, IsSome}
use Rattle.std.proofs.Common.{append_assoc, append-nil, length-append}
use Rattle.std.specs.declared.option.Option.{Option}
use Rattle.std.proofs.lemmas.Option.{slice_get_past}
use Rattle.plan_base.specs.declared.taken.Taken.{Taken as TakenParts}
use Rattle.plan_io.specs.declared.lines.ScriptLine.{ScriptLine}
use Rattle.desk_events.specs.declared.command.Command.{Command}
use Rattle.desk_events.specs.declared.entry.EventEntry.{EventEntry}
use Rattle.desk_events.specs.declared.fault.CommandFault.{CommandFault}
use Rattle.desk_events.specs.declared.reply.Reply.{Reply}
use Rattle.desk_events.specs.Line.{command_of_line}
use Rattle.desk_core.specs.Desk.{DeskSeen, StateSeen, start}
use Rattle.desk_core.specs.DeskSnapshot.{snapshot_of}
use Rattle.desk_core.specs.History.{IsPlanning, IsWhole, after_line, after_publish}
use Rattle.desk_book.specs.Doing.{IsStepDone, SaysNext}
use Rattle.desk_book.specs.Kept.{IsBook, IsSound as IsSoundBook}
use Rattle.desk_book.specs.Seen.{BookSeen, done_of, IsOver}
use Rattle.desk_book.proofs.Calls.{sound_step, sound_take, sound_publish}
use Rattle.desk_book.proofs.GoesOn.{GoesOn, line_goes, publish_goes}
use Rattle.desk_book.proofs.Sound.{book_of, sound_new, sound_line}
use Rattle.desk_book.proofs.Turns.{done_more, done_same}
use Rattle.desk_book.proofs.Whole.{over_is_whole}
use Rattle.session.specs.Line.{IsPlanReply, step_entry, take_entry, publish_entry, DoesLine, BeginsLine}
use Rattle.session.specs.Session.{IsSound}

-- the book of one caller
abbrev pub book_of_one : List ScriptLine → List EventEntry → StateSeen → Option TakenParts → BookSeen
book_of_one lines h s t = record { scripts = lines ∷ []; history = h; state = s; takes = t ∷ [] }

-- these lines are done, and leave the state s
pub record AreDone (lines : List ScriptLine) (h : List EventEntry) (s : StateSeen) : Type 0 where
  pub sound : IsSoundBook (book_of_one lines h s None)
  pub count : done_of 0 h ≡ length lines

pub done_none : AreDone [] [] start
done_none = record { sound = sound_new 1 (record { low = omega arith; high = omega arith }); count = refl }

-- ---- what is known of lines that are done

sound_book : (lines : List ScriptLine) (h : List EventEntry) (s : StateSeen) (t : Option TakenParts)
    → IsSoundBook (book_of_one lines h s t) → IsSound (lines ∷ []) h
sound_book lines h s t sound = let book : IsBook (book_of_one lines h s t) = book_of (book_of_one lines h s t) sound in
    record { legal = book.legal; bounded = book.claims }

-- the lines that are done have a sound history
pub sound_done : (lines : List ScriptLine) (h : List EventEntry) (s : StateSeen) → AreDone lines h s → IsSound (lines ∷ []) h
sound_done lines h s d = sound_book lines h s None d.sound

-- no caller has a line left
all_over : (lines : List ScriptLine) (h : List EventEntry) (s : StateSeen) → done_of 0 h ≡ length lines → (caller : ℕ)
    → IsOver (book_of_one lines h s None) caller
all_over lines h s count zero = (refl, slice_get_past lines (done_of 0 h) (omega (arith, count)))
all_over lines h s count (suc caller) = (refl, refl)

pub whole_done : (lines : List ScriptLine) (h : List EventEntry) (s : StateSeen) → AreDone lines h s → IsWhole (lines ∷ []) h
whole_done lines h s d = over_is_whole (book_of_one lines h s None) (book_of (book_of_one lines h s None) d.sound) (all_over lines h s d.count)

-- ---- a line more

-- what is read at the end of some lines
at_end : (lines : List ScriptLine) (line : ScriptLine) → slice_get (lines ++ line ∷ []) (length lines) ≡ Some line
at_end [] line = refl
at_end (l ∷ lines) line = at_end lines line

pub one_more : (lines : List ScriptLine) (line : ScriptLine) → length lines + 1 ≡ length (lines ++ line ∷ [])
one_more lines line = sym (length-append lines (line ∷ []))

-- the line is sent
sound_sent : (lines : List ScriptLine) (line : ScriptLine) (h : List EventEntry) (s : StateSeen) → AreDone lines h s → length lines < 65536
    → IsSoundBook (book_of_one (lines ++ line ∷ []) h s None)
sound_sent lines line h s d room = sound_line (book_of_one lines h s None) 0 line d.sound (omega arith) room

says_next : (lines : List ScriptLine) (line : ScriptLine) (h : List EventEntry) (s : StateSeen) → AreDone lines h s
    → SaysNext (book_of_one (lines ++ line ∷ []) h s None) 0 (command_of_line line)
says_next lines line h s d = (line, ap (slice_get (lines ++ line ∷ [])) d.count ∙ at_end lines line, refl)

count_more : (lines : List ScriptLine) (line : ScriptLine) (n : ℕ) → n ≡ length lines → n + 1 ≡ length (lines ++ line ∷ [])
count_more lines line n is = ap (λ (k : ℕ). k + 1) is ∙ one_more lines line

-- it is a step
done_step : (lines : List ScriptLine) (line : ScriptLine) (h : List EventEntry) (s t : StateSeen) (reply : Reply) → AreDone lines h s → length lines < 65536
    → IsStepDone s (command_of_line line) reply t → AreDone (lines ++ line ∷ []) (h ++ step_entry s (length lines + 1) reply ∷ []) t
done_step lines line h s t reply d room does =
    let longer : List ScriptLine = lines ++ line ∷ [] in
    let after : IsSoundBook (book_of_one longer (h ++ step_entry s (done_of 0 h + 1) reply ∷ []) t None) =
    sound_step (book_of_one longer h s None) 0 (command_of_line line) reply t (sound_sent lines line h s d room) refl (says_next lines line h s d) does in
    record {
      sound = subst (λ (n : ℕ). IsSoundBook (book_of_one longer (h ++ step_entry s (n + 1) reply ∷ []) t None)) d.count after;
      count = done_more 0 h (step_entry s (length lines + 1) reply) refl refl ∙ count_more lines line (done_of 0 h) d.count;
    }

-- it asks for a plan, and is begun by its Take
abbrev taken_of : StateSeen → DeskSeen → TakenParts
taken_of s d = record { caller = 0; settings = d.opening.settings; snapshot = snapshot_of s.version d }

desk_of : (o : Option DeskSeen) → IsSome o → (d : DeskSeen) × (o ≡ Some d)
desk_of None is = cc
desk_of (Some d) is = (d, refl)

sound_taken : (lines : List ScriptLine) (line : ScriptLine) (h : List EventEntry) (s : StateSeen) (d : DeskSeen) → AreDone lines h s → length lines < 65536
    → IsPlanning s (command_of_line line) → s.desk ≡ Some d
    → IsSoundBook (book_of_one (lines ++ line ∷ []) (h ++ take_entry s (length lines + 1) ∷ []) s (Some (taken_of s d)))
sound_taken lines line h s d done room asks is =
    let longer : List ScriptLine = lines ++ line ∷ [] in
    let after : IsSoundBook (book_of_one longer (h ++ take_entry s (done_of 0 h + 1) ∷ []) s (Some (taken_of s d))) =
    sound_take (book_of_one longer h s None) 0 (command_of_line line) (taken_of s d) (sound_sent lines line h s done room) (omega arith) refl
    (says_next lines line h s done)
    asks (d, is, refl, refl) refl in
    subst (λ (n : ℕ). IsSoundBook (book_of_one longer (h ++ take_entry s (n + 1) ∷ []) s (Some (taken_of s d)))) done.count after

-- and its Publish
done_plan : (lines : List ScriptLine) (line : ScriptLine) (h : List EventEntry) (s : StateSeen) (reply : Reply) → AreDone lines h s → length lines < 65536
    → IsPlanning s (command_of_line line) → IsPlanReply s reply
    → AreDone (lines ++ line ∷ []) (h ++ take_entry s (length lines + 1) ∷ publish_entry s (length lines + 1) reply ∷ []) (after_publish s reply)
done_plan lines line h s reply d room asks replied =
    let longer : List ScriptLine = lines ++ line ∷ [] in
    let n : ℕ = length lines + 1 in
    let begun : List EventEntry = h ++ take_entry s n ∷ [] in
    let desk = desk_of s.desk asks.1 in
    let count : done_of 0 begun ≡ length lines = done_same 0 h (take_entry s n) refl refl ∙ d.count in
    let after : IsSoundBook (book_of_one longer (begun ++ publish_entry s (done_of 0 begun + 1) reply ∷ []) (after_publish s reply) None) =
    sound_publish (book_of_one longer begun s (Some (taken_of s desk.0))) 0 (taken_of s desk.0) reply
    (sound_taken lines line h s desk.0 d room asks desk.1) (omega arith) refl
    replied.publication replied.claims in
    let done : AreDone longer (begun ++ publish_entry s n reply ∷ []) (after_publish s reply) = record {
      sound = subst (λ (k : ℕ). IsSoundBook (book_of_one longer (begun ++ publish_entry s (k + 1) reply ∷ []) (after_publish s reply) None)) count after;
      count = done_more 0 begun (publish_entry s n reply) refl refl ∙ count_more lines line (done_of 0 begun) count;
    } in
    subst (λ (es : List EventEntry). AreDone longer es (after_publish s reply)) (append_assoc h (take_entry s n ∷ []) (publish_entry s n reply ∷ [])) done

pub are_more : (lines : List ScriptLine) (line : ScriptLine) (h es : List EventEntry) (s t : StateSeen) → AreDone lines h s → length lines < 65536
    → DoesLine s (length lines + 1) (command_of_line line) es t → AreDone (lines ++ line ∷ []) (h ++ es) t
are_more lines line h es s t d room (inl does) =
    subst (λ (xs : List EventEntry). AreDone (lines ++ line ∷ []) (h ++ xs) t) (sym does.2) (done_step lines line h s t does.0 d room does.1)
are_more lines line h es s t d room (inr does) =
    subst (λ (u : StateSeen). AreDone (lines ++ line ∷ []) (h ++ es) u) (sym does.1.3)
    (subst (λ (xs : List EventEntry). AreDone (lines ++ line ∷ []) (h ++ xs) (after_publish s does.1.0)) (sym does.1.2)
    (done_plan lines line h s does.1.0 d room does.0 does.1.1))

-- with the entries of the line, or the first of them
pub sound_begun : (lines : List ScriptLine) (line : ScriptLine) (h es : List EventEntry) (s : StateSeen) → AreDone lines h s → length lines < 65536
    → BeginsLine s (length lines + 1) (command_of_line line) es → IsSound ((lines ++ line ∷ []) ∷ []) (h ++ es)
sound_begun lines line h es s d room (inl none) =
    subst (λ (xs : List EventEntry). IsSound ((lines ++ line ∷ []) ∷ []) xs) (sym (ap (λ (ys : List EventEntry). h ++ ys) none ∙ append-nil h))
    (sound_book (lines ++ line ∷ []) h s None (sound_sent lines line h s d room))
sound_begun lines line h es s d room (inr (inl begun)) =
    let desk = desk_of s.desk begun.0.1 in
    subst (λ (xs : List EventEntry). IsSound ((lines ++ line ∷ []) ∷ []) (h ++ xs)) (sym begun.1)
    (sound_book (lines ++ line ∷ []) (h ++ take_entry s (length lines + 1) ∷ []) s (Some (taken_of s desk.0))
    (sound_taken lines line h s desk.0 d room begun.0 desk.1))
sound_begun lines line h es s d room (inr (inr does)) = sound_done (lines ++ line ∷ []) (h ++ es) does.0 (are_more lines line h es s does.0 d room does.1)

-- ---- a line raises the version by one at most

rises : (s t : StateSeen) → GoesOn s t → t.version ≤ s.version + 1
rises s t (inl same) = omega (arith, ap (λ (u : StateSeen). u.version) same)
rises s t (inr more) = omega (arith, more)

pub does_version : (s t : StateSeen) (n : ℕ) (read : Result Command CommandFault) (es : List EventEntry) → DoesLine s n read es t → t.version ≤ s.version + 1
does_version s t n read es (inl d) =
    subst (λ (u : StateSeen). u.version ≤ s.version + 1) (sym d.1.left) (rises s (after_line s read d.0) (line_goes s read d.0))
does_version s t n read es (inr d) = subst (λ (u : StateSeen). u.version ≤ s.version + 1) (sym d.1.3) (rises s (after_publish s d.1.0) (publish_goes s d.1.0))
