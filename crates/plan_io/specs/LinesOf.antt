-- The lines of some bytes.
use Rattle.std.specs.Prelude.{ℕ, List, [], ◌∷◌, ◌++◌, length, Bool, true, false, if◌then◌else◌, nat_le, nat_eq}
use Rattle.plan_io.specs.Limits.{longest_line}
use Rattle.plan_io.specs.declared.lines.ScriptLine.{ScriptLine}
use Rattle.plan_io.specs.declared.lines.ScriptLine.TheVariants.{Bytes, TooLong}

-- what a piece counts as: a piece of more than 1,048,576 bytes is too long
abbrev pub line_of : List ℕ → ScriptLine
line_of piece = if nat_le (length piece) longest_line then Bytes piece else TooLong

-- a last piece without a newline counts where it isn't empty
abbrev pub last_of : List ℕ → List ScriptLine
last_of [] = []
last_of (b ∷ bs) = line_of (b ∷ bs) ∷ []

-- the lines of an open piece and the bytes after it
abbrev pub lines_from : List ℕ → List ℕ → List ScriptLine
lines_from piece [] = last_of piece
lines_from piece (b ∷ bs) = if nat_eq b 10 then line_of piece ∷ lines_from [] bs else lines_from (piece ++ b ∷ []) bs

-- the bytes are cut at each newline
abbrev pub lines_of : List ℕ → List ScriptLine
lines_of bytes = lines_from [] bytes

-- the lines of an open piece and the bytes after it whose newline stands in these bytes
abbrev pub whole_lines_from : List ℕ → List ℕ → List ScriptLine
whole_lines_from piece [] = []
whole_lines_from piece (b ∷ bs) = if nat_eq b 10 then line_of piece ∷ whole_lines_from [] bs else whole_lines_from (piece ++ b ∷ []) bs

-- the lines whose newline stands in these bytes
abbrev pub whole_lines_of : List ℕ → List ScriptLine
whole_lines_of bytes = whole_lines_from [] bytes

-- what stands after the first newline
abbrev pub after_newline : List ℕ → List ℕ
after_newline [] = []
after_newline (b ∷ bs) = if nat_eq b 10 then bs else after_newline bs

-- the lines that are left, where the bytes may begin within a piece that is too long already
abbrev pub lines_left : Bool → List ℕ → List ScriptLine
lines_left false bytes = lines_of bytes
lines_left true bytes = TooLong ∷ lines_of (after_newline bytes)
