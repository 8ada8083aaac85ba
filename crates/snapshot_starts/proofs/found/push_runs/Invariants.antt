use Rattle.std.proofs.Common.{◌≡◌, ◌++◌, take, map}
use Rattle.snapshot_starts.specs.Found.{run_of}
use Rattle.snapshot_starts.proofs.found.push_runs.Given as goal

abbrev pub invariant-loop-span : goal.invariant-loop-span
invariant-loop-span l = l.runs.items ≡ l.fn.runs.items ++ map (run_of l.pair) (take l.span-index l.slices)
