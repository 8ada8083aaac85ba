-- How far the groups of a desk have come.
use Rattle.std.specs.Prelude.{ℕ, List}
use Rattle.plan_base.specs.declared.number.Sec.{Sec}
use Rattle.desk_runs.specs.declared.group.Group.{Group}
use Rattle.desk_runs.specs.declared.observation.Observation.{Observation}

-- the seconds of a slice, the moment, all groups in the order of their numbers, the published observations that haven't
-- started, and those that are running
pub record Progress : Type 0 where
  pub len : ℕ
  pub moment : Sec
  pub groups : List Group
  pub kept : List Observation
  pub running : List Observation
