-- What steps do to a plan.
use Rattle.std.specs.Prelude.{◌≡◌, ℕ, ◌<◌, Bool, true, false, List, [], ◌∷◌, ◌++◌, length}
use Rattle.plan_base.specs.declared.parts.Parts.{Parts}
use Rattle.plan_base.specs.declared.claim.Placement.{Placement}
use Rattle.plan_base.specs.Saturated.{HasNoFree, IsEarliestFree}

-- the plan is longer after the step, or else as it was
abbrev pub AddsSome : Bool → List Placement → List Placement → Type 0
AddsSome true before after = length before < length after
AddsSome false before after = after ≡ before

-- request r gets its earliest free start, or has none
abbrev pub Places : Parts → List Placement → ℕ → Bool → List Placement → Type 0
Places s plan r true after = (p : Placement) × IsEarliestFree s plan r p × (after ≡ plan ++ p ∷ [])
Places s plan r false after = HasNoFree s plan r × (after ≡ plan)
