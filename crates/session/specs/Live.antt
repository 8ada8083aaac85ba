-- What a session of several callers reads and writes.
use Rattle.std.specs.Prelude.{◌≡◌, ℕ, ◌+◌, ◌==◌, ◌⊎◌, Bool, false, All, IsSome, List, [], ◌∷◌, ◌++◌, length, map, filter, codes, None, String}
use Rattle.std.specs.declared.alloc.Global.{Global}
use Rattle.std.specs.declared.option.Option.{Option}
use Rattle.std.specs.Option.{option_map_or, option_and_then}
use Rattle.std.specs.Result.{result_ok}
use Rattle.serde_json.specs.Data.{Data, Members}
use Rattle.plan_io.specs.declared.lines.ScriptLine.{ScriptLine}
use Rattle.plan_io.specs.declared.lines.ScriptLine.TheVariants.{Bytes, TooLong}
use Rattle.plan_io.specs.declared.lines.LineAnswer.{LineAnswer}
use Rattle.plan_io.specs.declared.lines.LineAnswer.TheVariants as ending
use Rattle.plan_io.specs.declared.sink.PutAnswer.TheVariants as put
use Rattle.plan_io.specs.declared.status.Status.{Status}
use Rattle.plan_io.specs.declared.status.Status.TheVariants.{Done, Words, ReadFault, WriteFault, NoMemory, InputOver, NoDocument, No, NoCaller}
use Rattle.plan_io.specs.Words.{IsOneWord}
use Rattle.plan_io.specs.Reading.{ReadsAll, ReadsFirst}
use Rattle.plan_io.specs.Sink.{Adds, Puts}
use Rattle.plan_json.specs.declared.member.Member.TheVariants as member
use Rattle.plan_json.specs.Line.{line_of}
use Rattle.plan_json.specs.Object.{document_of, member_of}
use Rattle.plan_json.specs.Values.{has, whole, object_of}
use Rattle.plan_json.specs.Whole.{number_in}
use Rattle.plan_io.specs.Limits.{most_input_lines}
use Rattle.session.specs.Limits.{most_live_bytes, last_caller}
use Rattle.session.specs.Session.{IsAnswered, IsPartlyAnswered, IsBrokenOff}

-- the one word `live`, or the one word `passes`
abbrev pub AreLiveWords : List (String Global) → Type 0
AreLiveWords words = IsOneWord (codes "live") words ⊎ IsOneWord (codes "passes") words

-- ---- who sends a line

-- the caller of an object, if it is a whole number from 0 to 7
abbrev pub caller_in : Members → Option ℕ
caller_in members = result_ok (member_of (number_in 0 last_caller) members member.Caller)

-- the caller of the object that bytes are, if they are one
abbrev pub caller_of_bytes : List ℕ → Option ℕ
caller_of_bytes bytes = option_and_then caller_in (result_ok (document_of bytes))

-- the caller that a line names; a line that is too long names none
abbrev pub caller_of : ScriptLine → Option ℕ
caller_of (Bytes bytes) = caller_of_bytes bytes
caller_of TooLong = None

-- whether a line names this caller
abbrev pub names : ℕ → ScriptLine → Bool
names caller line = option_map_or (λ named. named == caller) (caller_of line) false

-- each line names a caller
abbrev pub EachNamesCaller : List ScriptLine → Type 0
EachNamesCaller lines = All (λ line. IsSome (caller_of line)) lines

-- the callers
abbrev pub callers : List ℕ
callers = 0 ∷ 1 ∷ 2 ∷ 3 ∷ 4 ∷ 5 ∷ 6 ∷ 7 ∷ []

-- The script of each caller: of these lines those that name it, in the order of reading. It unfolds only where it is asked.
unfoldable pub scripts_of : List ScriptLine → List (List ScriptLine)
scripts_of lines = map (λ caller. filter (names caller) lines) callers

-- ---- what is read

-- the lines up to this ending, within the limits, were read, and each names a caller
pub record HasRead (ending : LineAnswer) (left left' : Option (List ℕ)) (lines : List ScriptLine) : Type 0 where
  pub read : ReadsAll most_live_bytes most_input_lines left lines ending left'
  pub named : EachNamesCaller lines

-- the first lines of what was read, within the limits, each name a caller
pub record HasReadFirst (left left' : Option (List ℕ)) (lines : List ScriptLine) : Type 0 where
  pub read : ReadsFirst most_live_bytes most_input_lines left lines left'
  pub named : EachNamesCaller lines

-- the first lines of what was read, within the limits, each name a caller, and the line after them names none
pub record HasNoCaller (left left' : Option (List ℕ)) (lines : List ScriptLine) : Type 0 where
  pub line : ScriptLine
  pub read : ReadsFirst most_live_bytes most_input_lines left (lines ++ line ∷ []) left'
  pub named : EachNamesCaller lines
  pub none : caller_of line ≡ None

-- ---- what is written

-- That a line names no caller, as data, by the line's number and that of the status. It unfolds only where it is asked.
unfoldable pub no_caller_data : ℕ → Data
no_caller_data number = object_of (has (codes "line") (whole number) ∷ has (codes "no") (whole 8) ∷ [])

-- its text, one line
abbrev pub no_caller_text : ℕ → List ℕ
no_caller_text number = line_of (no_caller_data number)

-- ---- both

-- all lines were read and answered
abbrev pub IsLiveEnded : Option (List ℕ) → Option (List ℕ) → Option (List ℕ) → Option (List ℕ) → Type 0
IsLiveEnded left left' held held' = (lines : List ScriptLine) × HasRead ending.End left left' lines × IsAnswered (scripts_of lines) held held'

-- the lines up to this ending were read, and nothing is done or written
abbrev pub IsLiveUndone : LineAnswer → Option (List ℕ) → Option (List ℕ) → Option (List ℕ) → Option (List ℕ) → Type 0
IsLiveUndone ending left left' held held' = (lines : List ScriptLine) × HasRead ending left left' lines × (held' ≡ held)

-- the first line without a caller was read, and its number was written; lines are counted from 1
abbrev pub IsLiveRefused : Option (List ℕ) → Option (List ℕ) → Option (List ℕ) → Option (List ℕ) → Type 0
IsLiveRefused left left' held held' = (lines : List ScriptLine) × HasNoCaller left left' lines × Adds held held' (no_caller_text (length lines + 1))

-- all lines were read, and less than the text of a history was written; or less than that on the first line without a caller
abbrev pub IsLiveUnwritten : Option (List ℕ) → Option (List ℕ) → Option (List ℕ) → Option (List ℕ) → Type 0
IsLiveUnwritten left left' held held' =
    ((lines : List ScriptLine) × HasRead ending.End left left' lines × IsBrokenOff (scripts_of lines) held held')
    ⊎ ((lines : List ScriptLine) × HasNoCaller left left' lines × Puts held held' put.WriteFault (no_caller_text (length lines + 1)))

-- all lines were read, and a prefix of the text of a history was written; or the first lines were read, and nothing is written
abbrev pub IsLiveCutOff : Option (List ℕ) → Option (List ℕ) → Option (List ℕ) → Option (List ℕ) → Type 0
IsLiveCutOff left left' held held' =
    ((lines : List ScriptLine) × HasRead ending.End left left' lines × IsPartlyAnswered (scripts_of lines) held held')
    ⊎ ((lines : List ScriptLine) × HasReadFirst left left' lines × (held' ≡ held))

-- what was read and written at each status
abbrev pub IsLive : Option (List ℕ) → Option (List ℕ) → Option (List ℕ) → Option (List ℕ) → Status → Type 0
IsLive left left' held held' Done = IsLiveEnded left left' held held'
IsLive left left' held held' ReadFault = IsLiveUndone ending.ReadFault left left' held held'
IsLive left left' held held' InputOver = IsLiveUndone ending.InputOver left left' held held'
IsLive left left' held held' NoCaller = IsLiveRefused left left' held held'
IsLive left left' held held' WriteFault = IsLiveUnwritten left left' held held'
IsLive left left' held held' NoMemory = IsLiveCutOff left left' held held'
IsLive left left' held held' Words = Unit {0}
IsLive left left' held held' NoDocument = ⊥
IsLive left left' held held' No = ⊥
