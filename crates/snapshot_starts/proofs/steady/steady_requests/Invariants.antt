use Rattle.std.proofs.Common.{All}
use Rattle.snapshot_starts.specs.Mending.{IsSteadyRequest}
use Rattle.snapshot_starts.proofs.steady.steady_requests.Given as goal

abbrev pub invariant-loop-place : goal.invariant-loop-place
invariant-loop-place l = All (λ r. IsSteadyRequest l.was l.snapshot r.0) l.steady.items
