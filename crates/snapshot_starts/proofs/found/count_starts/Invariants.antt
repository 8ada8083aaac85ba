use Rattle.std.proofs.Common.{◌≡◌, ◌+◌, ◌*◌, ◌≤◌, drop}
use Rattle.std.specs.Prelude.{sum_by}
use Rattle.snapshot_starts.specs.Found.{slice_count}
use Rattle.snapshot_starts.proofs.found.count_starts.Given as goal

abbrev pub invariant-loop-pair_slices : goal.invariant-loop-pair_slices
invariant-loop-pair_slices l = record {
  so_far : l.count + sum_by (λ x. slice_count x.slices) (drop l.pair_slices-index l.found) ≡ sum_by (λ x. slice_count x.slices) l.found;
  few : l.count ≤ 1440 * l.pair_slices-index;
}
