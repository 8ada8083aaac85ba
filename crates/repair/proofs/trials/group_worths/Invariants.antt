use Rattle.std.proofs.Common.{◌≡◌, map, take}
use Rattle.plan_base.specs.Fill.{worth_of_group}
use Rattle.repair.proofs.trials.group_worths.Given as goal

abbrev pub invariant-loop-group : goal.invariant-loop-group
invariant-loop-group l = l.worths.items ≡ map worth_of_group (take l.group-index l.groups)
