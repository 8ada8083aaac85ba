use Rattle.std.proofs.Common.{ℕ, ◌<◌, slice_index_or}
use Rattle.std.specs.Prelude.{HoldsAt}
use Rattle.groups.specs.Building.{IsPartly}
use Rattle.groups.proofs.plan.first_partly.Given as goal

abbrev pub invariant-loop-place : goal.invariant-loop-place
invariant-loop-place l = (g : ℕ) → g < l.place → ¬ (HoldsAt (λ x. IsPartly x (slice_index_or l.members g 0)) l.groups g)
