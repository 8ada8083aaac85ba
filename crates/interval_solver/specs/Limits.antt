-- What is solved at once.
use Rattle.std.specs.Prelude.{ℕ}

-- the most lists of prices
abbrev pub most_at_once : ℕ
most_at_once = 64
