use Rattle.std.proofs.Common.{◌≡◌, ◌+◌, drop, sum_by}
use Rattle.desk_runs.specs.Owners.{pending_of}
use Rattle.desk_runs.specs.Turning.{group_of}
use Rattle.desk_runs.proofs.by_number.count_pending.Given as goal

abbrev pub invariant-loop-number : goal.invariant-loop-number
invariant-loop-number l =
    l.count + sum_by (λ n. pending_of (group_of l.groups n)) (drop l.number-index l.numbers) ≡ sum_by (λ n. pending_of (group_of l.groups n)) l.numbers
