-- What a plan that is being built keeps.
use Rattle.std.specs.Prelude.{◌≡◌, ℕ, List}
use Rattle.plan_base.specs.declared.parts.Parts.{Parts}
use Rattle.groups.specs.Building.{Building}
use Rattle.repair.specs.Marks.{AreMarks}

-- the plan is for the snapshot, and the marks tell of it
pub record IsDraft (s : Parts) (build : Building) (slots : List ℕ) : Type 0 where
  pub snapshot : build.snapshot ≡ s
  pub marks : AreMarks s build.placed slots
