use Rattle.std.proofs.Common.{take}
use Rattle.snapshot_starts.proofs.HeldRuns.{AreToldBy}
use Rattle.snapshot_starts.proofs.held.Held.slices_within.Given as goal

abbrev pub invariant-loop-run : goal.invariant-loop-run
invariant-loop-run l = AreToldBy l.fn.pair.telescope.0 l.fn.slices (take l.run-index l.runs) l.within.items
