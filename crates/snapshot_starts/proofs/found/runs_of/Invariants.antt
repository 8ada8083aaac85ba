use Rattle.std.proofs.Common.{◌≡◌, take}
use Rattle.snapshot_starts.specs.Found.{runs_of}
use Rattle.snapshot_starts.proofs.found.runs_of.Given as goal

abbrev pub invariant-loop-pair_slices : goal.invariant-loop-pair_slices
invariant-loop-pair_slices l = l.runs.items ≡ runs_of (take l.pair_slices-index l.found)
