-- A value as one line.
use Rattle.std.specs.Prelude.{ℕ, List, [], ◌∷◌, ◌++◌}
use Rattle.serde_json.specs.Data.{Data}
use Rattle.plan_json.specs.Adds.{text_of}

-- the text of a value, with no space, and a newline after it
abbrev pub line_of : Data → List ℕ
line_of d = text_of d ++ 10 ∷ []
