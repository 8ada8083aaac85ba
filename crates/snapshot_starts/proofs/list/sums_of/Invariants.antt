use Rattle.std.proofs.Common.{◌≡◌, ℕ, ◌+◌, ◌<◌, length, take, slice_index_or}
use Rattle.snapshot_starts.specs.Kept.{count_of}
use Rattle.snapshot_starts.proofs.list.sums_of.Given as goal

abbrev pub invariant-loop-run : goal.invariant-loop-run
invariant-loop-run l = record {
  count : length l.sums.items ≡ l.run-index;
  sum : l.sum ≡ count_of (take l.run-index l.runs);
  each : (i : ℕ) → i < l.run-index → slice_index_or l.sums.items i 0 ≡ count_of (take (i + 1) l.runs);
}
