use Rattle.std.proofs.Common.{◌≡◌, ℕ, ◌<◌, [], ◌∷◌, pos, List, ℤ, length, slice_index_or}
use Rattle.interval_solver.proofs.solver.write_prices.Given as goal

abbrev pub invariant-loop-place : goal.invariant-loop-place
invariant-loop-place l = record {
  count : length l.lanes ≡ length l.prices;
  written : (k : ℕ) (d : List ℤ) → k < l.place → slice_index_or l.lanes k d ≡ slice_index_or l.prices k (pos 0) ∷ [];
}
