-- What contracts see of a reader of lines.
use Rattle.std.specs.Prelude.{◌≡◌, ℕ, ◌≤◌, ◌⊎◌, List, [], Bool, true, false}
use Rattle.plan_io.specs.Newline.{HasNewline}

-- the bytes that it holds, whether they stand within a piece that is too long already, how many bytes it took and lines it
-- answered of how many, and whether its source failed or came to its end
pub record LinesSeen : Type 0 where
  pub held : List ℕ
  pub long : Bool
  pub taken : ℕ
  pub answered : ℕ
  pub most_bytes : ℕ
  pub most_lines : ℕ
  pub failed : Bool
  pub ended : Bool

-- no byte of the next line was taken
pub record IsFresh (reader : LinesSeen) : Type 0 where
  pub held : reader.held ≡ []
  pub long : reader.long ≡ false

-- the bytes that were taken and the lines that began are within the limits
pub record IsWithin (reader : LinesSeen) : Type 0 where
  pub bytes : reader.taken ≤ reader.most_bytes
  pub lines : reader.answered ≤ reader.most_lines
  pub last : reader.answered ≡ reader.most_lines → IsFresh reader

-- a whole line is at hand, within the limits: it ends at a newline that is held, or it is the last piece of a source that
-- came to its end
pub record HasLine (reader : LinesSeen) : Type 0 where
  pub within : IsWithin reader
  pub steady : reader.failed ≡ false
  pub whole : HasNewline reader.held ⊎ ((reader.ended ≡ true) × ¬ IsFresh reader)
