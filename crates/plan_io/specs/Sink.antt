-- What a write adds to what was written, and when a sink's faults count.
use Rattle.std.specs.Prelude.{◌≡◌, ℕ, ◌≤◌, ◌<◌, List, [], ◌++◌, length, take, None, Some}
use Rattle.std.specs.declared.option.Option.{Option}
use Rattle.std.specs.Io.KnownBytes.{Appends, Keeps}
use Rattle.plan_io.specs.Source.{Rose}
use Rattle.plan_io.specs.declared.sink.WriteAnswer.{WriteAnswer}
use Rattle.plan_io.specs.declared.sink.WriteAnswer.TheVariants as write
use Rattle.plan_io.specs.declared.sink.PutAnswer.{PutAnswer}
use Rattle.plan_io.specs.declared.sink.PutAnswer.TheVariants as put

-- what was written grew by these bytes, where the sink tells it now; then it told it before too
abbrev pub Adds : Option (List ℕ) → Option (List ℕ) → List ℕ → Type 0
Adds None None bytes = Unit {0}
Adds None (Some ys) bytes = ⊥
Adds (Some xs) None bytes = Unit {0}
Adds (Some xs) (Some ys) bytes = ys ≡ xs ++ bytes

-- a write added the bytes that it took from the front of the piece, or nothing where it failed
abbrev pub Writes : Option (List ℕ) → Option (List ℕ) → WriteAnswer → List ℕ → Type 0
Writes old new (write.Took n) piece = (n ≤ length piece) × Adds old new (take n piece)
Writes old new write.Failed piece = Adds old new []

-- of a piece that isn't empty at least one byte is taken, or the write failed and the count rose
abbrev pub IsWriteCause : ℕ → ℕ → WriteAnswer → List ℕ → Type 0
IsWriteCause before now (write.Took n) piece = (before ≤ now) × (0 < length piece → 0 < n)
IsWriteCause before now write.Failed piece = Rose before now

-- the whole piece was added, or less of it where a write failed
abbrev pub Puts : Option (List ℕ) → Option (List ℕ) → PutAnswer → List ℕ → Type 0
Puts old new put.Done piece = Adds old new piece
Puts old new put.WriteFault piece = (n : ℕ) × (n < length piece) × Adds old new (take n piece)

-- the count never falls, and there is a fault only where it rose
abbrev pub IsPutCause : ℕ → ℕ → PutAnswer → Type 0
IsPutCause before now put.Done = before ≤ now
IsPutCause before now put.WriteFault = Rose before now

-- a writer's known contents grew by the bytes that were taken, or stayed where the write failed
abbrev pub Passes : Option (List ℕ) → Option (List ℕ) → WriteAnswer → List ℕ → Type 0
Passes old new (write.Took n) piece = Appends old new (take n piece)
Passes old new write.Failed piece = Keeps old new
