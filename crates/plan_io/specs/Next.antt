-- What one call of a reader of lines does.
use Rattle.std.specs.Prelude.{◌≡◌, ℕ, ◌+◌, ◌≤◌, ◌<◌, List, [], ◌∷◌, ◌++◌, length, take, if◌then◌else◌, true, false, None, Some, ◌⊎◌}
use Rattle.std.specs.declared.option.Option.{Option}
use Rattle.std.specs.Io.KnownBytes.{Consumes, Keeps, IsAtEnd}
use Rattle.plan_io.specs.declared.lines.ScriptLine.{ScriptLine}
use Rattle.plan_io.specs.declared.lines.ScriptLine.TheVariants.{TooLong}
use Rattle.plan_io.specs.declared.lines.LineAnswer.{LineAnswer}
use Rattle.plan_io.specs.declared.lines.LineAnswer.TheVariants.{Line, End, ReadFault, InputOver}
use Rattle.plan_io.specs.declared.lines.Turn.{Turn}
use Rattle.plan_io.specs.declared.lines.Turn.TheVariants as turn
use Rattle.plan_io.specs.LinesSeen.{LinesSeen, IsFresh, IsWithin}
use Rattle.plan_io.specs.LinesOf.{line_of, lines_left, after_newline}
use Rattle.plan_io.specs.Newline.{NoNewline, HasNewline}
use Rattle.plan_io.specs.Source.{Rose}

-- what the first bytes that are held count as
abbrev pub line_at : LinesSeen → ℕ → ScriptLine
line_at reader n = if reader.long then TooLong else line_of (take n reader.held)

-- whatever comes after these bytes, the lines that were left are these and then those that are left now
abbrev pub Cuts : LinesSeen → List ℕ → List ScriptLine → LinesSeen → Type 0
Cuts old bytes lines new =
    (later : List ℕ) → lines_left old.long ((old.held ++ bytes) ++ later) ≡ lines ++ lines_left new.long (new.held ++ later)

-- the reader took these bytes and answered these lines
pub record Advances (old : LinesSeen) (bytes : List ℕ) (lines : List ScriptLine) (new : LinesSeen) : Type 0 where
  pub cuts : Cuts old bytes lines new
  pub taken : new.taken ≡ old.taken + length bytes
  pub answered : new.answered ≡ old.answered + length lines
  pub most_bytes : new.most_bytes ≡ old.most_bytes
  pub most_lines : new.most_lines ≡ old.most_lines

-- the reader took these bytes, which are the last, and answered the line that they end with
pub record EndsIn (old : LinesSeen) (bytes : List ℕ) (line : ScriptLine) (new : LinesSeen) : Type 0 where
  pub last : lines_left old.long (old.held ++ bytes) ≡ line ∷ []
  pub fresh : IsFresh new
  pub taken : new.taken ≡ old.taken + length bytes
  pub answered : new.answered ≡ old.answered + 1
  pub most_bytes : new.most_bytes ≡ old.most_bytes
  pub most_lines : new.most_lines ≡ old.most_lines

-- the reader took these bytes, which fill the limit and end no line, and lost the one byte after them; a reader beyond
-- its limit has done so before, and took nothing
pub record Overruns (old : LinesSeen) (bytes lost : List ℕ) (new : LinesSeen) : Type 0 where
  pub cuts : Cuts old bytes [] new
  pub clear : NoNewline new.held
  pub over : new.taken ≡ new.most_bytes + 1
  pub one : old.taken ≤ old.most_bytes → length lost ≡ 1
  pub taken : new.taken ≡ old.taken + length (bytes ++ lost)
  pub answered : new.answered ≡ old.answered
  pub most_bytes : new.most_bytes ≡ old.most_bytes
  pub most_lines : new.most_lines ≡ old.most_lines

-- one line more than allowed has begun, within the limit of bytes
pub record BeginsTooMany (reader : LinesSeen) : Type 0 where
  pub bytes : reader.taken ≤ reader.most_bytes
  pub lines : reader.answered ≡ reader.most_lines
  pub begun : ¬ IsFresh reader

-- the reader answered these lines, of bytes that the source gave
abbrev pub ReadsOn : LinesSeen → Option (List ℕ) → List ScriptLine → LinesSeen → Option (List ℕ) → Type 0
ReadsOn old a lines new b = (bytes : List ℕ) × Consumes a b bytes × Advances old bytes lines new

-- the source came to its end, in this call or in an earlier one, and the reader answered the last line
abbrev pub ReadsLast : LinesSeen → Option (List ℕ) → ScriptLine → LinesSeen → Option (List ℕ) → Type 0
ReadsLast old a line new b = (bytes : List ℕ) × Consumes a b bytes × EndsIn old bytes line new × (old.ended ≡ false → IsAtEnd b)

-- the source gave the byte beyond the limit
abbrev pub ReadsOver : LinesSeen → Option (List ℕ) → LinesSeen → Option (List ℕ) → Type 0
ReadsOver old a new b = (bytes : List ℕ) × ((lost : List ℕ) × Consumes a b (bytes ++ lost) × Overruns old bytes lost new)

-- Line: the first of the lines that are left, cut at its newline or at the end of the source, within the limits.
-- End: the source is at its end, since this call or an earlier one, and no byte is left over.
-- ReadFault: no whole line is left, within the limits.
-- InputOver: no whole line is left and the byte beyond the limit was taken, or one line more than allowed has begun.
abbrev pub IsNext : LinesSeen → Option (List ℕ) → LinesSeen → Option (List ℕ) → LineAnswer → Type 0
IsNext old a new b (Line line) =
    ((ReadsOn old a (line ∷ []) new b × (new.ended ≡ false)) ⊎ (ReadsLast old a line new b × (new.ended ≡ true)))
    × (new.taken ≤ new.most_bytes) × (new.answered ≤ new.most_lines) × (new.failed ≡ false)
IsNext old a new b End =
    ReadsOn old a [] new b × IsFresh new × IsWithin new × (new.failed ≡ false) × (new.ended ≡ true)
    × (old.ended ≡ false → IsAtEnd b)
IsNext old a new b ReadFault =
    ReadsOn old a [] new b × NoNewline new.held × IsWithin new × (new.failed ≡ true) × (new.ended ≡ false)
IsNext old a new b InputOver =
    (ReadsOver old a new b ⊎ (ReadsOn old a [] new b × BeginsTooMany new))
    × ¬ IsWithin new × (new.failed ≡ false) × (new.ended ≡ false)

-- the count of faults never falls; it rose in this call, or an earlier call of the reader answered ReadFault
abbrev pub IsNextCause : LinesSeen → ℕ → ℕ → LineAnswer → Type 0
IsNextCause old before now (Line line) = before ≤ now
IsNextCause old before now End = before ≤ now
IsNextCause old before now ReadFault = (before ≤ now) × (old.failed ≡ false → Rose before now)
IsNextCause old before now InputOver = before ≤ now

-- the answer is a line
abbrev pub IsLine : LineAnswer → Type 0
IsLine (Line line) = Unit {0}
IsLine _ = ⊥

-- the first line of the bytes that are held was cut off, and what stands after its newline is held still; or there is no newline
-- in them
abbrev pub IsCut : LinesSeen → LinesSeen → Option ScriptLine → Type 0
IsCut old new None =
    Advances old [] [] new × NoNewline new.held × IsWithin new × (new.failed ≡ old.failed) × (new.ended ≡ old.ended)
    × NoNewline old.held
IsCut old new (Some line) =
    Advances old [] (line ∷ []) new × (new.answered ≤ new.most_lines) × (new.failed ≡ old.failed) × (new.ended ≡ old.ended)
    × HasNewline old.held × (new.held ≡ after_newline old.held)

-- one turn of reading: a block was added, or the end, or nothing, or more came than is allowed
abbrev pub IsTurn : LinesSeen → Option (List ℕ) → LinesSeen → Option (List ℕ) → Turn → Type 0
IsTurn old a new b turn.More =
    ReadsOn old a [] new b × (old.taken < new.taken) × IsWithin new × (new.failed ≡ false) × (new.ended ≡ false)
IsTurn old a new b turn.End = Keeps a b × IsAtEnd b × (new ≡ record old { ended = true })
IsTurn old a new b turn.Failed = Keeps a b × (new ≡ record old { failed = true })
IsTurn old a new b turn.Over =
    (ReadsOver old a new b ⊎ (ReadsOn old a [] new b × BeginsTooMany new)) × (new.failed ≡ false) × (new.ended ≡ false)

-- the count of faults never falls, and a turn failed only where it rose
abbrev pub IsTurnCause : ℕ → ℕ → Turn → Type 0
IsTurnCause before now turn.More = before ≤ now
IsTurnCause before now turn.End = before ≤ now
IsTurnCause before now turn.Failed = Rose before now
IsTurnCause before now turn.Over = before ≤ now

-- at the end of the source: the piece that is held is the last line, or none is held
abbrev pub IsLast : LinesSeen → LinesSeen → LineAnswer → Type 0
IsLast old new (Line line) =
    EndsIn old [] line new × (new.answered ≤ new.most_lines) × (new.failed ≡ old.failed) × (new.ended ≡ old.ended)
IsLast old new End = (new ≡ old) × IsFresh old
IsLast old new ReadFault = ⊥
IsLast old new InputOver = ⊥
