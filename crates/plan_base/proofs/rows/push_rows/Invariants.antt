use Rattle.std.proofs.Common.{◌≡◌, ◌++◌, drop}
use Rattle.plan_base.specs.Rows.{rows_within}
use Rattle.plan_base.proofs.rows.push_rows.Given as goal

abbrev pub invariant-loop-place : goal.invariant-loop-place
invariant-loop-place l = l.rows.items ++ rows_within l.group l.place (drop l.place l.part.requests) ≡ l.initial.rows.items
    ++ rows_within l.group 0 l.part.requests
