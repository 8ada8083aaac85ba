use Rattle.std.proofs.Common.{◌≡◌, ◌+◌, drop}
use Rattle.snapshot_starts.specs.Found.{slice_count}
use Rattle.snapshot_starts.proofs.found.count_slices.Given as goal

abbrev pub invariant-loop-span : goal.invariant-loop-span
invariant-loop-span l = l.count + slice_count (drop l.span-index l.slices) ≡ slice_count l.slices
