-- What the parts of a session of several callers do.
use Rattle.std.specs.Prelude.{◌≡◌, ℕ, ◌+◌, ◌<◌, Bool, true, false, List, ◌++◌, length, take, slice_get, None, Some}
use Rattle.std.specs.declared.option.Option.{Option}
use Rattle.std.specs.List.{AllByRecursion}
use Rattle.plan_base.specs.Limits.{most_callers}
use Rattle.plan_io.specs.declared.lines.ScriptLine.{ScriptLine}
use Rattle.plan_io.specs.declared.lines.LineAnswer.TheVariants as ending
use Rattle.plan_io.specs.declared.sink.PutAnswer.{PutAnswer}
use Rattle.plan_io.specs.declared.sink.PutAnswer.TheVariants as put
use Rattle.plan_io.specs.declared.status.Status.{Status}
use Rattle.plan_io.specs.declared.status.Status.TheVariants.{Done, WriteFault, NoMemory, NoCaller}
use Rattle.plan_io.specs.Sink.{Adds, Puts}
use Rattle.plan_io.specs.Source.{Rose}
use Rattle.desk_events.specs.declared.entry.EventEntry.{EventEntry}
use Rattle.desk_events.specs.Entry.{text_of_entry, text_of_history}
use Rattle.desk_events.specs.Laws.{IsWritableEntry}
use Rattle.desk_book.specs.Seen.{BookSeen, with_line}
use Rattle.session.specs.declared.live.reading.Input.{Input}
use Rattle.session.specs.declared.live.reading.Input.TheVariants as input
use Rattle.session.specs.Session.{IsAnswered, IsPartlyAnswered, IsBrokenOff, Gathers}
use Rattle.session.specs.Live.{caller_of, scripts_of, HasRead, HasReadFirst, HasNoCaller, no_caller_text}

-- ---- reading

-- a line that names a caller was added to that caller's script; one that names none changes nothing
abbrev pub IsSent : BookSeen → ScriptLine → BookSeen → Bool → Type 0
IsSent old line new true = (caller : ℕ) × (caller < most_callers) × (caller_of line ≡ Some caller) × (new ≡ with_line old caller line)
IsSent old line new false = (caller_of line ≡ None) × (new ≡ old)

-- what was read: all lines, which are the scripts of the book; or it ended before
abbrev pub IsInput : Option (List ℕ) → Option (List ℕ) → BookSeen → Input → Type 0
IsInput left left' book input.Whole = (lines : List ScriptLine) × HasRead ending.End left left' lines × (book.scripts ≡ scripts_of lines)
IsInput left left' book (input.NoCaller number) = (lines : List ScriptLine) × HasNoCaller left left' lines × (number ≡ length lines + 1)
IsInput left left' book input.ReadFault = (lines : List ScriptLine) × HasRead ending.ReadFault left left' lines
IsInput left left' book input.InputOver = (lines : List ScriptLine) × HasRead ending.InputOver left left' lines

-- the first lines were read
abbrev pub HasReadSome : Option (List ℕ) → Option (List ℕ) → Type 0
HasReadSome left left' = (lines : List ScriptLine) × HasReadFirst left left' lines

-- the source's count of faults rose where a read failed
abbrev pub IsInputCause : ℕ → ℕ → Input → Type 0
IsInputCause before now input.ReadFault = Rose before now
IsInputCause before now _ = Unit {0}

-- ---- writing

-- the text of the entry at this place of a history was added, and it can be written
abbrev pub AddsEntryAt : List EventEntry → ℕ → List ℕ → List ℕ → Type 0
AddsEntryAt history index old new =
    (entry : EventEntry) × (slice_get history index ≡ Some entry) × IsWritableEntry entry × (new ≡ old ++ text_of_entry entry)

-- of the text of the first entries, which can be written, a prefix was written and the rest is gathered
pub record HasGathered (held held' : Option (List ℕ)) (history : List EventEntry) (replies : List ℕ) : Type 0 where
  pub count : ℕ
  pub writable : AllByRecursion IsWritableEntry (take count history)
  pub gathers : Gathers held held' replies (text_of_history (take count history))

-- the text of all entries was written, or less than that of the first; the entries can be written
abbrev pub TellsHistory : Option (List ℕ) → Option (List ℕ) → List EventEntry → PutAnswer → Type 0
TellsHistory held held' history put.Done = AllByRecursion IsWritableEntry history × Adds held held' (text_of_history history)
TellsHistory held held' history put.WriteFault =
    (count : ℕ) × AllByRecursion IsWritableEntry (take count history) × Puts held held' put.WriteFault (text_of_history (take count history))

-- what was written of a history of these scripts at each status; the others don't come
abbrev pub IsTold : List (List ScriptLine) → Option (List ℕ) → Option (List ℕ) → Status → Type 0
IsTold scripts held held' Done = IsAnswered scripts held held'
IsTold scripts held held' WriteFault = IsBrokenOff scripts held held'
IsTold scripts held held' NoMemory = IsPartlyAnswered scripts held held'
IsTold scripts held held' _ = ⊥

-- what was written of a line without a caller at each status; the others don't come
abbrev pub IsRefused : ℕ → Option (List ℕ) → Option (List ℕ) → Status → Type 0
IsRefused number held held' NoCaller = Adds held held' (no_caller_text number)
IsRefused number held held' WriteFault = Puts held held' put.WriteFault (no_caller_text number)
IsRefused number held held' NoMemory = held' ≡ held
IsRefused number held held' _ = ⊥
