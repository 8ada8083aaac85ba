-- The slices that were found for each pair, their count and their runs.
use Rattle.std.specs.Prelude.{◌≡◌, ℕ, ◌-◌, ◌^◌, ◌≤◌, ◌<◌, List, length, map, flat_map, sum_by, All}
use Rattle.plan_base.specs.Limits.{most_slices}
use Rattle.plan_base.specs.declared.parts.Parts.{Parts}
use Rattle.plan_base.specs.declared.span.Span.{Span}
use Rattle.snapshot_starts.specs.declared.run.Run.{Run}
use Rattle.snapshot_starts.specs.declared.pair.Pair.{Pair}
use Rattle.snapshot_starts.specs.declared.pair.PairSlices.{PairSlices}
use Rattle.snapshot_starts.specs.Pairs.{pairs_of, ArePairSlices}

-- what was found for the pair
pub record IsFoundFor (s : Parts) (pair : Pair) (x : PairSlices) : Type 0 where
  pub same : x.pair ≡ pair
  pub found : ArePairSlices s x

-- what was found for each pair of the snapshot, in order
pub record AreFound (s : Parts) (found : List PairSlices) : Type 0 where
  pub pairs : map (λ x. x.pair) found ≡ pairs_of s
  pub each : All (ArePairSlices s) found

-- how many slices the spans have
abbrev pub slice_count : List Span → ℕ
slice_count slices = sum_by (λ w. w.to.0 - w.from.0) slices

-- the span has a slice, and its slices are numbers of slices
pub record IsRunSpan (w : Span) : Type 0 where
  pub some : w.from.0 < w.to.0
  pub below : w.to.0 < 2 ^ 32

-- all spans of all pairs are so
abbrev pub AreRunSpans : List PairSlices → Type 0
AreRunSpans found = All (λ x. All IsRunSpan x.slices) found

-- as few slices as the pairs of a snapshot have at most
pub record AreFew (found : List PairSlices) : Type 0 where
  pub spans : AreRunSpans found
  pub slices : All (λ x. slice_count x.slices ≤ most_slices) found
  pub pairs : length found ≤ 32768

-- the run of the pair that has the slices of the span
abbrev pub run_of : Pair → Span → Run
run_of pair w = record { request = pair.request; telescope = pair.telescope; first = record { 0 = w.from.0 }; count = w.to.0 - w.from.0 }

-- the runs of all pairs, in order
abbrev pub runs_of : List PairSlices → List Run
runs_of found = flat_map (λ x. map (run_of x.pair) x.slices) found
