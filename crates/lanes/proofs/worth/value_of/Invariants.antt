use Rattle.std.proofs.Common.{◌≡◌, ◌+◌, ◌*◌, ◌≤◌, drop}
use Rattle.plan_base.specs.Starts.{value_of_plan}
use Rattle.lanes.proofs.worth.value_of.Given as goal

abbrev pub invariant-loop-start : goal.invariant-loop-start
invariant-loop-start l = (l.value + value_of_plan l.snapshot (drop l.start-index l.plan) ≡ value_of_plan l.snapshot l.plan)
    × (l.value ≤ l.start-index * 288000000)
