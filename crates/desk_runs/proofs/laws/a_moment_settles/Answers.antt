use Rattle.desk_runs.proofs.Settling.{settle_settles}
use Rattle.desk_runs.proofs.laws.a_moment_settles.Goals as goal

pub returns : goal.returns
returns c = settle_settles
