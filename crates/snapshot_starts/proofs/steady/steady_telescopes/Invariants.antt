use Rattle.std.proofs.Common.{All}
use Rattle.snapshot_starts.specs.Mending.{IsSteadyTelescope}
use Rattle.snapshot_starts.proofs.steady.steady_telescopes.Given as goal

abbrev pub invariant-loop-number : goal.invariant-loop-number
invariant-loop-number l = All (λ t. IsSteadyTelescope l.was l.parts t.0) l.steady.items
