use Rattle.std.proofs.Common.{arith}
use Rattle.std.proofs.lemmas.Grind.{elements}
use Rattle.desk_core.proofs.desk.Desk.telescope_part.Goals as goal

pub returns-clause-part : goal.returns-clause-part
returns-clause-part c = grind (arith, elements)
