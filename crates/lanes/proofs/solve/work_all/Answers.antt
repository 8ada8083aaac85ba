use Rattle.std.proofs.Common.{arith}
use Rattle.std.proofs.lemmas.Grind.{common_steps}
use Rattle.lanes.proofs.solve.work_all.Goals as goal

pub returns-clause-each : goal.returns-clause-each
returns-clause-each g c = grind (arith, common_steps)
