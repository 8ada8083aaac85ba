use Rattle.std.proofs.Common.{arith}
use Rattle.std.proofs.lemmas.Grind.{common_steps}
use Rattle.desk_runs.proofs.by_number.put_groups.Goals as goal

pub loop-group-preserved-then-place-len : goal.loop-group-preserved-then-place-len
loop-group-preserved-then-place-len c = grind (arith, common_steps)

pub loop-group-preserved : goal.loop-group-preserved
loop-group-preserved c = grind (arith, common_steps)
