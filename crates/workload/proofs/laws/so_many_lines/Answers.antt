use Rattle.workload.proofs.Places.{so_many_lines}
use Rattle.workload.proofs.laws.so_many_lines.Goals as goal

pub returns : goal.returns
returns c = so_many_lines
