use Rattle.std.proofs.Common.{◌≡◌, ◌*◌}
use Rattle.workload.specs.Generator.{number_after}
use Rattle.workload.specs.Requests.{requests_from}
use Rattle.workload.proofs.request.draw_requests.Given as goal

abbrev pub invariant-loop : goal.invariant-loop
invariant-loop l = record {
  drawn : l.requests ≡ requests_from l.initial.draws.x l.counter;
  next : l.draws.x ≡ number_after l.initial.draws.x (5 * l.counter);
}
