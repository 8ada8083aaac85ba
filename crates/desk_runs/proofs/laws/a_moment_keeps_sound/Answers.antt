use Rattle.desk_runs.specs.Clock.{at_moment}
use Rattle.desk_runs.proofs.Sounds.{settle_sound, ready_at}
use Rattle.desk_runs.proofs.laws.a_moment_keeps_sound.Goals as goal

pub returns : goal.returns
returns c = λ s now h. settle_sound (at_moment now s) (ready_at s now h)
