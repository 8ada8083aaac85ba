-- What contracts see of bytes that are still to be cut.
use Rattle.std.specs.Prelude.{ℕ, List}

-- the bytes, and for how many more there is room
pub record HeldSeen : Type 0 where
  pub bytes : List ℕ
  pub free : ℕ
