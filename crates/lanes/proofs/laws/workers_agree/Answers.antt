use Rattle.lanes.proofs.OnePlanned.{workers_agree}
use Rattle.lanes.proofs.laws.workers_agree.Goals as goal

pub returns : goal.returns
returns c = workers_agree
