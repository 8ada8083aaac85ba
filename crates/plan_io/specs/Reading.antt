-- What a loop over the calls of a reader of lines gives.
use Rattle.std.specs.Prelude.{◌≡◌, ℕ, ◌+◌, ◌≤◌, ◌<◌, List, ◌++◌, length, take, true, false, ◌⊎◌}
use Rattle.std.specs.declared.option.Option.{Option}
use Rattle.std.specs.Io.KnownBytes.{Consumes, IsAtEnd}
use Rattle.plan_io.specs.declared.lines.ScriptLine.{ScriptLine}
use Rattle.plan_io.specs.declared.lines.LineAnswer.{LineAnswer}
use Rattle.plan_io.specs.declared.lines.LineAnswer.TheVariants.{Line, End, ReadFault, InputOver}
use Rattle.plan_io.specs.LinesSeen.{LinesSeen, IsFresh}
use Rattle.plan_io.specs.LinesOf.{lines_of, whole_lines_of}
use Rattle.plan_io.specs.Next.{ReadsOn}

-- the source came to its end, and the lines of all its bytes were answered
pub record HasEnded (start : LinesSeen) (a : Option (List ℕ)) (lines : List ScriptLine) (now : LinesSeen) (b : Option (List ℕ)) : Type 0 where
  pub given : List ℕ
  pub came : Consumes a b given
  pub at_end : IsAtEnd b
  pub are : lines_of given ≡ lines
  pub fresh : IsFresh now
  pub ended : now.ended ≡ true
  pub taken : now.taken ≡ start.taken + length given
  pub answered : now.answered ≡ start.answered + length lines
  pub most_bytes : now.most_bytes ≡ start.most_bytes
  pub most_lines : now.most_lines ≡ start.most_lines

-- since the start these lines were answered, of a source that had a left then and has b left now
abbrev pub HasAnswered : LinesSeen → Option (List ℕ) → List ScriptLine → LinesSeen → Option (List ℕ) → Type 0
HasAnswered start a lines now b = (ReadsOn start a lines now b × (now.ended ≡ false)) ⊎ HasEnded start a lines now b

-- all lines up to the first answer that is none, under limits of bytes and lines.
-- End: the source was read to its end, and they are the lines of all bytes, which are within the limits.
-- ReadFault: they are those whose newline was taken, and with the one that has begun they are within the limits.
-- InputOver: one byte more was taken than allowed, and they are those whose newline is within the limit; or more lines began than
-- allowed, and they are the first.
abbrev pub ReadsAll : ℕ → ℕ → Option (List ℕ) → List ScriptLine → LineAnswer → Option (List ℕ) → Type 0
ReadsAll most_bytes most_lines a lines (Line line) b = ⊥
ReadsAll most_bytes most_lines a lines End b =
    (given : List ℕ) × Consumes a b given × IsAtEnd b × (lines_of given ≡ lines) × (length given ≤ most_bytes) × (length lines ≤ most_lines)
ReadsAll most_bytes most_lines a lines ReadFault b =
    (given : List ℕ) × Consumes a b given × (lines ≡ whole_lines_of given) × (length given ≤ most_bytes) × (length lines ≤ most_lines)
    × (length (lines_of given) ≤ most_lines)
ReadsAll most_bytes most_lines a lines InputOver b =
    (given : List ℕ) × Consumes a b given
    × (((length given ≡ most_bytes + 1) × (lines ≡ whole_lines_of (take most_bytes given)) × (length lines ≤ most_lines))
    ⊎ ((length given ≤ most_bytes) × (most_lines < length (lines_of given)) × (lines ≡ take most_lines (whole_lines_of given))))

-- the first lines, of a reader that may go on, under limits of bytes and lines: of the bytes that were taken they are the first
-- whose newline is among these, or all lines where the source is at its end
pub record ReadsFirst (most_bytes most_lines : ℕ) (a : Option (List ℕ)) (lines : List ScriptLine) (b : Option (List ℕ)) : Type 0 where
  pub given : List ℕ
  pub came : Consumes a b given
  pub first : ((rest : List ScriptLine) × (whole_lines_of given ≡ lines ++ rest)) ⊎ (IsAtEnd b × (lines_of given ≡ lines))
  pub bytes : length given ≤ most_bytes
  pub few : length lines ≤ most_lines
