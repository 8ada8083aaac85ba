use Rattle.std.proofs.Common.{ℕ, ◌<◌}
use Rattle.bound_checker.specs.Claims.{IsPartial, HoldsOfGroup}
use Rattle.bound_checker.proofs.kinds.first_and_partial.Given as goal

abbrev pub invariant-loop-place : goal.invariant-loop-place
invariant-loop-place l = (g : ℕ) → g < l.place → ¬ (HoldsOfGroup IsPartial l.groups l.counts g)
