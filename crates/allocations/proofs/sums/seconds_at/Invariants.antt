use Rattle.std.proofs.Common.{◌≡◌, ◌+◌, drop}
use Rattle.allocations.specs.Amounts.{amount_at}
use Rattle.allocations.proofs.sums.seconds_at.Given as goal

abbrev pub invariant-loop-amount : goal.invariant-loop-amount
invariant-loop-amount l = l.seconds + amount_at l.account (drop l.amount-index l.amounts) ≡ amount_at l.account l.amounts
