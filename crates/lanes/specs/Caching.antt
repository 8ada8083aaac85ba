-- What becomes of a cache of possible starts with which a snapshot is planned.
use Rattle.std.specs.Prelude.{◌≡◌, ◌⊎◌, Option, Some}
use Rattle.plan_base.specs.declared.parts.Parts.{Parts}
use Rattle.plan_base.specs.declared.taken.Outcome.{Outcome}
use Rattle.plan_base.specs.declared.taken.Outcome.TheVariants.{Plan, TooManyStarts}

-- it holds the snapshot that is planned, and is as before where there are too many starts
abbrev pub IsCachedFor : Parts → Outcome → Option Parts → Option Parts → Type 0
IsCachedFor s (Plan claim) old new = new ≡ Some s
IsCachedFor s (TooManyStarts n) old new = new ≡ old

-- it is as before, or holds the snapshot
abbrev pub IsCachedOrNot : Parts → Option Parts → Option Parts → Type 0
IsCachedOrNot s old new = (new ≡ old) ⊎ (new ≡ Some s)
