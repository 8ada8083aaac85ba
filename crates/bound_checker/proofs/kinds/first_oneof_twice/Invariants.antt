use Rattle.std.proofs.Common.{ℕ, ◌<◌}
use Rattle.bound_checker.specs.Claims.{IsTwice, HoldsOfGroup}
use Rattle.bound_checker.proofs.kinds.first_oneof_twice.Given as goal

abbrev pub invariant-loop-place : goal.invariant-loop-place
invariant-loop-place l = (g : ℕ) → g < l.place → ¬ (HoldsOfGroup IsTwice l.groups l.counts g)
