-- Plans that are feasible but for the rule on ANDs, as plans are while an AND is being placed.
use Rattle.std.specs.Prelude.{List}
use Rattle.plan_base.specs.declared.parts.Parts.{Parts}
use Rattle.plan_base.specs.declared.claim.Placement.{Placement}
use Rattle.plan_base.specs.Feasible.{IsEachPossible, IsEachOnce, IsDisjoint, IsOneofOnce, IsWithinQuotas}

-- all rules of a feasible plan but that of each AND all its requests are placed or none
pub record IsFeasibleSoFar (s : Parts) (plan : List Placement) : Type 0 where
  pub possible : IsEachPossible s plan
  pub once : IsEachOnce plan
  pub disjoint : IsDisjoint s plan
  pub oneof_once : IsOneofOnce s plan
  pub within_quotas : IsWithinQuotas s plan
