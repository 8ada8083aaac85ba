-- What contracts see of a sink in memory that never fails.
use Rattle.std.specs.Prelude.{◌≡◌, ℕ, ◌+◌, List, ◌++◌, length, take, Bool, true, false, ◌||◌, nat_lt, None, Some}
use Rattle.std.specs.declared.option.Option.{Option}

-- the bytes that it keeps, how many there may be, and whether it dropped some
pub record SteadySinkSeen : Type 0 where
  pub bytes : List ℕ
  pub room : ℕ
  pub over : Bool

-- what it tells: the bytes, while none was dropped
abbrev pub told_unless : Bool → List ℕ → Option (List ℕ)
told_unless true bytes = None
told_unless false bytes = Some bytes

-- what it tells of what was written
abbrev pub told : SteadySinkSeen → Option (List ℕ)
told sink = told_unless sink.over sink.bytes

-- after a write it keeps the first bytes of all that was written, and knows whether that was all
pub record Keeps (old : SteadySinkSeen) (piece : List ℕ) (new : SteadySinkSeen) : Type 0 where
  pub bytes : new.bytes ≡ take old.room (old.bytes ++ piece)
  pub room : new.room ≡ old.room
  pub over : new.over ≡ (old.over || nat_lt old.room (length old.bytes + length piece))
