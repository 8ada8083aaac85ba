-- What is true of the fields of bytes that are still to be cut.
use Rattle.std.specs.Prelude.{◌≢◌, ℕ, ◌≤◌, ◌<◌, vec_len, slice_index}
use Rattle.plan_io.specs.declared.held.Held.TheInside.{Inside}

-- what was looked at holds no newline
pub record IsScanned (held : Inside) : Type 0 where
  pub start : held.start ≤ held.scanned
  pub scanned : held.scanned ≤ vec_len held.bytes
  pub clear : (k : ℕ) → held.start ≤ k → k < held.scanned → slice_index held.bytes.items k ≢ 10
