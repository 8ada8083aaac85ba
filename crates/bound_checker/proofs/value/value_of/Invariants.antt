use Rattle.std.proofs.Common.{◌≡◌, ◌≤◌, ◌*◌, take}
use Rattle.plan_base.specs.Starts.{value_of_plan}
use Rattle.bound_checker.proofs.value.value_of.Given as goal

abbrev pub invariant-loop-placement : goal.invariant-loop-placement
invariant-loop-placement l = (l.value ≡ value_of_plan l.snapshot (take l.placement-index l.plan)) × (l.value ≤ l.placement-index * 288000000)
