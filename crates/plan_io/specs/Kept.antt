-- What contracts see of bytes that are kept in room made at the start.
use Rattle.std.specs.Prelude.{ℕ, List}

-- the bytes, and how many there may be
pub record KeptSeen : Type 0 where
  pub bytes : List ℕ
  pub room : ℕ
