use Rattle.std.proofs.Common.{refl, arith}
use Rattle.interval_solver.proofs.in_step.walk_all.Goals as goal

pub loop-place-init : goal.loop-place-init
loop-place-init g c = record { count = refl; each = λ l d h. absurd (omega arith); kept = λ l d h. refl }
