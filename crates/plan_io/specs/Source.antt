-- What a read does to the bytes that a source has left, and when its faults count.
use Rattle.std.specs.Prelude.{◌≡◌, ℕ, ◌+◌, ◌-◌, ◌^◌, ◌≤◌, ◌<◌, min, List, take}
use Rattle.std.specs.declared.option.Option.{Option}
use Rattle.std.specs.Io.KnownBytes.{Consumes, Keeps, IsAtEnd}
use Rattle.plan_io.specs.declared.source.ReadAnswer.{ReadAnswer}
use Rattle.plan_io.specs.declared.source.ReadAnswer.TheVariants.{Got, Failed}

-- the count of faults rose, or it stands at the end of u64
abbrev pub Rose : ℕ → ℕ → Type 0
Rose before now = (before ≤ now) × (min (before + 1) (2 ^ 64 - 1) ≤ now)

-- a read gave the next bytes, at most as many as there was room for, and none only at the end or with no room; a read that failed took nothing
abbrev pub Reads : Option (List ℕ) → Option (List ℕ) → ℕ → ReadAnswer → List ℕ → Type 0
Reads old new size (Got n) room = (n ≤ size) × Consumes old new (take n room) × (n ≡ 0 → 0 < size → IsAtEnd new)
Reads old new size Failed room = Keeps old new

-- the count never falls, and a read failed only where it rose
abbrev pub IsReadCause : ℕ → ℕ → ReadAnswer → Type 0
IsReadCause before now (Got n) = before ≤ now
IsReadCause before now Failed = Rose before now
