use Rattle.std.proofs.Common.{arith}
use Rattle.std.proofs.lemmas.Grind.{common_steps}
use Rattle.allocations.proofs.asking.amounts_for.Goals as goal

pub returns-in_err-amount-clause-refused : goal.returns-in_err-amount-clause-refused
returns-in_err-amount-clause-refused c = grind (arith, common_steps)

pub loop-hold-preserved : goal.loop-hold-preserved
loop-hold-preserved c = grind (arith, common_steps)

pub returns-clause-stand : goal.returns-clause-stand
returns-clause-stand c = grind (arith, common_steps)

pub returns-clause-given : goal.returns-clause-given
returns-clause-given c = grind (arith, common_steps)
