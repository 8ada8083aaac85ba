use Rattle.std.proofs.Common.{◌≡◌, ◌+◌, ◌++◌, drop}
use Rattle.desk_runs.specs.Adding.{requests_from}
use Rattle.desk_runs.proofs.new_group.pending_requests.Given as goal

abbrev pub invariant-loop-i : goal.invariant-loop-i
invariant-loop-i l = l.requests.items ++ requests_from (l.first + l.i) (drop l.i l.asks) ≡ requests_from l.first l.asks
