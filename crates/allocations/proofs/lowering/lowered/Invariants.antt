use Rattle.allocations.proofs.Lower.{Lowers}
use Rattle.allocations.proofs.lowering.lowered.Given as goal

abbrev pub invariant-loop-index : goal.invariant-loop-index
invariant-loop-index l = Lowers l.store.keys l.initial.amounts.items l.holds l.amounts.items l.kept l.index
