-- What a session reads and writes.
use Rattle.std.specs.Prelude.{◌≡◌, ℕ, ◌≤◌, List, [], ◌∷◌, ◌++◌, length, take}
use Rattle.std.specs.List.{AllByRecursion}
use Rattle.std.specs.declared.option.Option.{Option}
use Rattle.plan_io.specs.declared.lines.ScriptLine.{ScriptLine}
use Rattle.plan_io.specs.declared.lines.LineAnswer.{LineAnswer}
use Rattle.plan_io.specs.declared.lines.LineAnswer.TheVariants as ending
use Rattle.plan_io.specs.declared.sink.PutAnswer.{PutAnswer}
use Rattle.plan_io.specs.declared.sink.PutAnswer.TheVariants as put
use Rattle.plan_io.specs.declared.status.Status.{Status}
use Rattle.plan_io.specs.declared.status.Status.TheVariants.{Done, Words, ReadFault, WriteFault, NoMemory, InputOver, NoDocument, No, NoCaller}
use Rattle.plan_io.specs.Reading.{ReadsAll, ReadsFirst}
use Rattle.plan_io.specs.Source.{Rose}
use Rattle.plan_io.specs.Sink.{Adds, Puts}
use Rattle.desk_events.specs.declared.entry.EventEntry.{EventEntry}
use Rattle.desk_events.specs.Entry.{text_of_history}
use Rattle.desk_events.specs.Laws.{IsTelling}
use Rattle.desk_core.specs.History.{EachAfter, IsLegal, IsWhole}
use Rattle.desk_book.specs.Claims.{IsClaimEntry}
use Rattle.plan_io.specs.Limits.{most_input_bytes, most_input_lines}

-- ---- the history of a session

-- A legal history of the callers' scripts. Each claim that it publishes, whether it was planned or sent, is bounded for the
-- snapshot of its version, and the document of each that it exports is checked with Yes.
pub record IsSound (scripts : List (List ScriptLine)) (history : List EventEntry) : Type 0 where
  pub legal : IsLegal scripts history
  pub bounded : EachAfter (IsClaimEntry scripts) history

-- ---- what is read and written

-- the text of a sound history of the callers' scripts, of each of their lines, was written, and tells that history
pub record IsAnswered (scripts : List (List ScriptLine)) (held held' : Option (List ℕ)) : Type 0 where
  pub history : List EventEntry
  pub sound : IsSound scripts history
  pub whole : IsWhole scripts history
  pub telling : AllByRecursion IsTelling history
  pub written : Adds held held' (text_of_history history)

-- the lines up to this ending, within the limits, were read and answered; they are the script of the one caller
pub record IsEnded (ending : LineAnswer) (left left' held held' : Option (List ℕ)) : Type 0 where
  pub lines : List ScriptLine
  pub read : ReadsAll most_input_bytes most_input_lines left lines ending left'
  pub answered : IsAnswered (lines ∷ []) held held'

-- a prefix of the text was written
abbrev pub WritesPrefix : Option (List ℕ) → Option (List ℕ) → List ℕ → Type 0
WritesPrefix old new text = (n : ℕ) × (n ≤ length text) × Adds old new (take n text)

-- a prefix of the text of a sound history of these scripts was written; the whole text tells that history
pub record IsPartlyAnswered (scripts : List (List ScriptLine)) (held held' : Option (List ℕ)) : Type 0 where
  pub history : List EventEntry
  pub sound : IsSound scripts history
  pub telling : AllByRecursion IsTelling history
  pub prefix : WritesPrefix held held' (text_of_history history)

-- less than the text of a sound history of these scripts was written, since a write failed; the whole text tells that history
pub record IsBrokenOff (scripts : List (List ScriptLine)) (held held' : Option (List ℕ)) : Type 0 where
  pub history : List EventEntry
  pub sound : IsSound scripts history
  pub telling : AllByRecursion IsTelling history
  pub less : Puts held held' put.WriteFault (text_of_history history)

-- the first lines of what was read, within the limits, were done, and less than the replies to them was written
pub record IsUnwritten (left left' held held' : Option (List ℕ)) : Type 0 where
  pub lines : List ScriptLine
  pub read : ReadsFirst most_input_bytes most_input_lines left lines left'
  pub answered : IsBrokenOff (lines ∷ []) held held'

-- the first lines of what was read, within the limits, were done, and a prefix of the replies to them was written
pub record IsCutOff (left left' held held' : Option (List ℕ)) : Type 0 where
  pub lines : List ScriptLine
  pub read : ReadsFirst most_input_bytes most_input_lines left lines left'
  pub answered : IsPartlyAnswered (lines ∷ []) held held'

-- what was read and written at each status
abbrev pub IsSession : Option (List ℕ) → Option (List ℕ) → Option (List ℕ) → Option (List ℕ) → Status → Type 0
IsSession left left' held held' Done = IsEnded ending.End left left' held held'
IsSession left left' held held' ReadFault = IsEnded ending.ReadFault left left' held held'
IsSession left left' held held' InputOver = IsEnded ending.InputOver left left' held held'
IsSession left left' held held' WriteFault = IsUnwritten left left' held held'
IsSession left left' held held' NoMemory = IsCutOff left left' held held'
IsSession left left' held held' Words = Unit {0}
IsSession left left' held held' NoDocument = ⊥
IsSession left left' held held' No = ⊥
IsSession left left' held held' NoCaller = ⊥

-- a count of faults rose, where the status says so
abbrev pub IsSessionCause : ℕ → ℕ → ℕ → ℕ → Status → Type 0
IsSessionCause reads reads' writes writes' ReadFault = Rose reads reads'
IsSessionCause reads reads' writes writes' WriteFault = Rose writes writes'
IsSessionCause reads reads' writes writes' _ = Unit {0}

-- the sink's count of faults rose, where the status says so
abbrev pub IsWritingCause : ℕ → ℕ → Status → Type 0
IsWritingCause writes writes' WriteFault = Rose writes writes'
IsWritingCause writes writes' _ = Unit {0}

-- ---- replies that are gathered

-- of this text a prefix was written, and the rest are the replies that are gathered
abbrev pub Gathers : Option (List ℕ) → Option (List ℕ) → List ℕ → List ℕ → Type 0
Gathers held held' replies text = (told : List ℕ) × Adds held held' told × (text ≡ told ++ replies)

-- of the text of a sound history of the first lines of what was read a prefix was written, and the rest is gathered
pub record IsGathered (left left' held held' : Option (List ℕ)) (replies : List ℕ) : Type 0 where
  pub lines : List ScriptLine
  pub read : ReadsFirst most_input_bytes most_input_lines left lines left'
  pub history : List EventEntry
  pub sound : IsSound (lines ∷ []) history
  pub telling : AllByRecursion IsTelling history
  pub gathers : Gathers held held' replies (text_of_history history)

-- some of the replies were written, from the front, and the others are left; or a write failed
abbrev pub IsWrittenOn : Option (List ℕ) → Option (List ℕ) → PutAnswer → List ℕ → List ℕ → Type 0
IsWrittenOn held held' put.Done old new = Gathers held held' new old
IsWrittenOn held held' put.WriteFault old new = Puts held held' put.WriteFault old
