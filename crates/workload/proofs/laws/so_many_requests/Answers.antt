use Rattle.workload.proofs.Places.{so_many_requests}
use Rattle.workload.proofs.laws.so_many_requests.Goals as goal

pub returns : goal.returns
returns c = so_many_requests
