use Rattle.prices.proofs.Walking.{IsWalked}
use Rattle.prices.proofs.taken.write_taken.Given as goal

abbrev pub invariant-loop-group : goal.invariant-loop-group
invariant-loop-group l = IsWalked l.snapshot l.net l.fn.taken l.taken l.first l.group
