use Rattle.repair.specs.Orders.{AreRanksOf}
use Rattle.repair.proofs.order.ranks_of.Given as goal

abbrev pub invariant-loop-place : goal.invariant-loop-place
invariant-loop-place l = AreRanksOf l.worths l.place l.ranks.items
