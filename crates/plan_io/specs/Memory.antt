-- What contracts see of a source and a sink in memory that fail where they are told to.
use Rattle.std.specs.Prelude.{◌≡◌, ℕ, ◌-◌, ◌<◌, min, List, ◌++◌, length, take, drop, Contains, ◌⊎◌}
use Rattle.plan_io.specs.Calls.{CallsSeen, next_count}
use Rattle.plan_io.specs.declared.source.ReadAnswer.{ReadAnswer}
use Rattle.plan_io.specs.declared.source.ReadAnswer.TheVariants as read
use Rattle.plan_io.specs.declared.sink.WriteAnswer.{WriteAnswer}
use Rattle.plan_io.specs.declared.sink.WriteAnswer.TheVariants as write

-- the bytes that are left, how many a call gives at most, and the calls
pub record MemSourceSeen : Type 0 where
  pub left : List ℕ
  pub most : ℕ
  pub calls : CallsSeen

-- the bytes that were written, how many there may be, how many a call takes at most, and the calls
pub record MemSinkSeen : Type 0 where
  pub bytes : List ℕ
  pub room : ℕ
  pub most : ℕ
  pub calls : CallsSeen

-- this call is to fail
abbrev pub IsToFail : CallsSeen → Type 0
IsToFail calls = Contains calls.failing calls.made

-- one call more, which went well
abbrev pub after_call : CallsSeen → CallsSeen
after_call calls = record calls { made = next_count calls.made }

-- one call more, which failed
abbrev pub after_fault : CallsSeen → CallsSeen
after_fault calls = record calls { made = next_count calls.made; faults = next_count calls.faults }

-- a read gives as many bytes as it may, or fails exactly where it is to
abbrev pub MemReads : MemSourceSeen → ℕ → ReadAnswer → MemSourceSeen → Type 0
MemReads old size (read.Got n) new =
    (IsToFail old.calls → ⊥) × (n ≡ min (min size old.most) (length old.left))
    × (new ≡ record old { left = drop n old.left; calls = after_call old.calls })
MemReads old size read.Failed new = IsToFail old.calls × (new ≡ record old { calls = after_fault old.calls })

-- a write takes as many bytes as it may, or fails exactly where it is to or no room is left
abbrev pub MemWrites : MemSinkSeen → List ℕ → WriteAnswer → MemSinkSeen → Type 0
MemWrites old piece (write.Took n) new =
    (IsToFail old.calls → ⊥) × (length old.bytes < old.room) × (n ≡ min (min (length piece) old.most) (old.room - length old.bytes))
    × (new ≡ record old { bytes = old.bytes ++ take n piece; calls = after_call old.calls })
MemWrites old piece write.Failed new = (IsToFail old.calls ⊎ (length old.bytes ≡ old.room)) × (new ≡ record old { calls = after_fault old.calls })
