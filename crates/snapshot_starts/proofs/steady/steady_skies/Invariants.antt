use Rattle.std.proofs.Common.{All}
use Rattle.snapshot_starts.specs.Mending.{IsSteadySky}
use Rattle.snapshot_starts.proofs.steady.steady_skies.Given as goal

abbrev pub invariant-loop-sky : goal.invariant-loop-sky
invariant-loop-sky l = All (IsSteadySky l.was l.parts) l.steady.items
