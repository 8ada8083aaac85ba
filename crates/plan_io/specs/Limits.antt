-- The most that is read.
use Rattle.std.specs.Prelude.{ℕ}

-- the most bytes of a document, and of the lines of a session of one caller
abbrev pub most_input_bytes : ℕ
most_input_bytes = 67108864

-- the most lines of a session, of one caller or of several, and so of each caller
abbrev pub most_input_lines : ℕ
most_input_lines = 65536

-- the most bytes of a line, without its newline
abbrev pub longest_line : ℕ
longest_line = 1048576

-- the most bytes of one read
abbrev pub most_read : ℕ
most_read = 65536
