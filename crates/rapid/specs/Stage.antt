-- What is known where a start of a new request is sought.
use Rattle.std.specs.Prelude.{◌≡◌, ℕ, ◌<◌, ◌^◌, List, length, map, All, Contains, sum_by}
use Rattle.plan_base.specs.declared.parts.Parts.{Parts}
use Rattle.plan_base.specs.declared.parts.Op.TheVariants.{Single}
use Rattle.plan_base.specs.Requests.{IsKnown, group_of, quota_of, IsKind}
use Rattle.plan_base.specs.Feasible.{requests_of, IsFeasible}
use Rattle.rapid.specs.declared.held.Held.{Held}
use Rattle.rapid.specs.Held.{held_of, plan_of, HasPlaceBelow}

-- request r is the one of a SINGLE, the plan that is held is feasible and doesn't place it, and what is held is worked out of the plan
pub record IsStage (s : Parts) (r : ℕ) (held : List Held) : Type 0 where
  pub known : IsKnown s r
  pub single : IsKind s Single (group_of s r)
  pub feasible : IsFeasible s (plan_of held)
  pub unplaced : ¬ (Contains (requests_of (plan_of held)) r)
  pub told : held ≡ map (held_of s (quota_of s r)) (plan_of held)
  pub places : All (HasPlaceBelow (length s.groups)) held
  pub worths : sum_by (λ h. h.worth) held < 2 ^ 60
  pub counts : sum_by (λ h. h.counted) held < 2 ^ 60
