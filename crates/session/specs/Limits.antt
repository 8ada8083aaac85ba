-- The limits of a session of several callers.
use Rattle.std.specs.Prelude.{ℕ}

-- the most bytes of their lines, which are all kept
abbrev pub most_live_bytes : ℕ
most_live_bytes = 16777216

-- the greatest number of a caller
abbrev pub last_caller : ℕ
last_caller = 7
