use Rattle.std.proofs.Common.{arith}
use Rattle.std.proofs.lemmas.Grind.{common_steps}
use Rattle.allocations.proofs.sums.lower.Goals as goal

pub overflow_sub-sums : goal.overflow_sub-sums
overflow_sub-sums c = grind (arith, common_steps)

pub loop-amount-preserved : goal.loop-amount-preserved
loop-amount-preserved c = grind (arith, common_steps)

pub returns-clause-held : goal.returns-clause-held
returns-clause-held c = grind (arith, common_steps)
