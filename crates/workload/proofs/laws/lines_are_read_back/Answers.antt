use Rattle.workload.proofs.Written.{lines_are_read_back}
use Rattle.workload.proofs.laws.lines_are_read_back.Goals as goal

pub returns : goal.returns
returns c = lines_are_read_back
