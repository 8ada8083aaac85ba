use Rattle.std.proofs.Common.{◌≡◌, ◌++◌, drop}
use Rattle.plan_base.specs.States.{is_in}
use Rattle.desk_runs.specs.Clock.{became}
use Rattle.desk_runs.proofs.expiry.extend_became.Given as goal

abbrev pub invariant-loop-i : goal.invariant-loop-i
invariant-loop-i l = l.requests.items ++ became (is_in l.state) (drop l.i l.before) (drop l.i l.after) ≡ l.initial.requests.items
    ++ became (is_in l.state) l.before l.after
