use Rattle.std.proofs.Common.{arith}
use Rattle.std.proofs.lemmas.Grind.{common_steps}
use Rattle.desk_core.proofs.ending.refunds_in.Goals as goal

pub loop-ending-preserved : goal.loop-ending-preserved
loop-ending-preserved c = grind (arith, common_steps)

pub returns : goal.returns
returns c = grind (arith, common_steps)
