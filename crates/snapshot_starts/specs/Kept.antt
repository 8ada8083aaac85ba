-- What a list of starts keeps.
use Rattle.std.specs.Prelude.{◌≡◌, ℕ, ◌+◌, ◌^◌, ◌≤◌, ◌<◌, Bool, true, false, List, length, take, slice_index_or, All, AllPairs, sum_by}
use Rattle.plan_base.specs.Limits.{most_starts}
use Rattle.snapshot_starts.specs.declared.run.Run.{Run}
use Rattle.snapshot_starts.specs.Runs.{IsRunBefore}

-- how many starts the runs have
abbrev pub count_of : List Run → ℕ
count_of runs = sum_by (λ run. run.count) runs

-- runs in order, few enough and in their ranges
pub record CanKeep (runs : List Run) : Type 0 where
  pub some : All (λ run. 0 < run.count) runs
  pub slices : All (λ run. run.first.0 + run.count ≤ 2 ^ 32) runs
  pub order : AllPairs IsRunBefore runs
  pub few : count_of runs ≤ most_starts

-- the sums count the starts of the runs from the first up to each
pub record AreSums (runs : List Run) (sums : List ℕ) : Type 0 where
  pub count : length sums ≡ length runs
  pub each : (i : ℕ) → i < length runs → slice_index_or sums i 0 ≡ count_of (take (i + 1) runs)

-- the runs can be kept, and these are their sums
pub record IsKept (runs : List Run) (sums : List ℕ) : Type 0 where
  pub can_keep : CanKeep runs
  pub are_sums : AreSums runs sums

-- the numbers before place n are at most the bound, and those from it on are above it
pub record IsCountUpTo (sums : List ℕ) (most n : ℕ) : Type 0 where
  pub within : n ≤ length sums
  pub up_to : (k : ℕ) → k < n → slice_index_or sums k 0 ≤ most
  pub above : (k : ℕ) → n ≤ k → k < length sums → most < slice_index_or sums k 0

-- the test holds of the elements before place n, and of no other
pub record HoldsBelow {X : Type 0} (test : X → Bool) (xs : List X) (n : ℕ) : Type 0 where
  pub below : (k : ℕ) (d : X) → k < n → k < length xs → test (slice_index_or xs k d) ≡ true
  pub others : (k : ℕ) (d : X) → n ≤ k → k < length xs → test (slice_index_or xs k d) ≡ false
