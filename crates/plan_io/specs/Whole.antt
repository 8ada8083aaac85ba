-- What reading a source to its end gives.
use Rattle.std.specs.Prelude.{◌≡◌, ℕ, ◌+◌, ◌≤◌, ◌<◌, List, ◌++◌, length}
use Rattle.std.specs.declared.option.Option.{Option}
use Rattle.std.specs.Io.KnownBytes.{Consumes, Keeps, IsAtEnd}
use Rattle.plan_io.specs.Source.{Rose}
use Rattle.plan_io.specs.declared.whole.WholeAnswer.{WholeAnswer}
use Rattle.plan_io.specs.declared.whole.WholeAnswer.TheVariants.{Bytes, ReadFault, InputOver}
use Rattle.plan_io.specs.declared.whole.Turn.{Turn}
use Rattle.plan_io.specs.declared.whole.Turn.TheVariants as turn

-- Bytes: all that the source gave up to its end, within the limit.
-- ReadFault: what was taken is within the limit.
-- InputOver: the limit and one byte more were taken.
abbrev pub ReadsWhole : Option (List ℕ) → Option (List ℕ) → ℕ → WholeAnswer → Type 0
ReadsWhole old new most (Bytes bytes) = Consumes old new bytes × IsAtEnd new × (length bytes ≤ most)
ReadsWhole old new most ReadFault = (taken : List ℕ) × Consumes old new taken × (length taken ≤ most)
ReadsWhole old new most InputOver = (taken : List ℕ) × Consumes old new taken × (length taken ≡ most + 1)

-- the count never falls, and there is a fault only where it rose
abbrev pub IsWholeCause : ℕ → ℕ → WholeAnswer → Type 0
IsWholeCause before now (Bytes bytes) = before ≤ now
IsWholeCause before now ReadFault = Rose before now
IsWholeCause before now InputOver = before ≤ now

-- where memory is wanting, at most so many bytes were taken from the front, and the count hasn't fallen
abbrev pub StopsReading : Option (List ℕ) → Option (List ℕ) → ℕ → ℕ → ℕ → Type 0
StopsReading old new most before now = ((taken : List ℕ) × Consumes old new taken × (length taken ≤ most)) × (before ≤ now)

-- one turn of reading: at most so many bytes came and were added, or the end, or nothing
abbrev pub IsWholeTurn : Option (List ℕ) → Option (List ℕ) → ℕ → List ℕ → List ℕ → Turn → Type 0
IsWholeTurn old new most before after turn.More =
    (taken : List ℕ) × Consumes old new taken × (0 < length taken) × (length taken ≤ most) × (after ≡ before ++ taken)
IsWholeTurn old new most before after turn.End = Keeps old new × IsAtEnd new × (after ≡ before)
IsWholeTurn old new most before after turn.Failed = Keeps old new × (after ≡ before)

-- the count never falls, and a turn failed only where it rose
abbrev pub IsWholeTurnCause : ℕ → ℕ → Turn → Type 0
IsWholeTurnCause before now turn.More = before ≤ now
IsWholeTurnCause before now turn.End = before ≤ now
IsWholeTurnCause before now turn.Failed = Rose before now
