use Rattle.std.proofs.Common.{arith}
use Rattle.std.proofs.lemmas.Grind.{common_steps}
use Rattle.plan_base.proofs.build.first_unfit.Goals as goal

pub returns-then-not-fits_after : goal.returns-then-not-fits_after
returns-then-not-fits_after c = grind (arith, common_steps)

pub loop-telescope-preserved : goal.loop-telescope-preserved
loop-telescope-preserved c = grind (arith, common_steps)

pub returns : goal.returns
returns c = grind (arith, common_steps)
