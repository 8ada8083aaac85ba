use Rattle.std.proofs.Common.{◌≡◌, ◌++◌, drop}
use Rattle.plan_base.specs.Rows.{rows_from}
use Rattle.plan_base.proofs.rows.rows_of.Given as goal

abbrev pub invariant-loop-group : goal.invariant-loop-group
invariant-loop-group l = l.rows.items ++ rows_from l.group (drop l.group l.groups) ≡ rows_from 0 l.groups
