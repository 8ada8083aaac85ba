use Rattle.std.proofs.Common.{◌≡◌, ◌+◌, ◌*◌, ◌≤◌, map, sum_by, drop}
use Rattle.repair.proofs.trials.value_sum.Given as goal

abbrev pub invariant-loop-request : goal.invariant-loop-request
invariant-loop-request l =
    (l.sum + sum_by (λ v. v) (map (λ q. q.value) (drop l.request-index l.requests)) ≡ sum_by (λ v. v) (map (λ q. q.value) l.requests))
    × (l.sum ≤ l.request-index * 288000000)
