-- Possible starts in order, and the runs that they make.
use Rattle.std.specs.Prelude.{◌≡◌, ℕ, suc, ◌+◌, ◌≤◌, ◌<◌, ◌⊎◌, ◌==◌, List, map, flat_map, filter, All, AllPairs, Contains}
use Rattle.std.specs.List.{range_with_len}
use Rattle.plan_base.specs.Limits.{most_starts}
use Rattle.plan_base.specs.declared.parts.Parts.{Parts}
use Rattle.plan_base.specs.declared.claim.Placement.{Placement}
use Rattle.plan_base.specs.Starts.{IsListedBefore, IsAllStarts, IsStartCount}
use Rattle.snapshot_starts.specs.declared.run.Run.{Run}
use Rattle.snapshot_starts.specs.declared.fault.StartFault.{StartFault}
use Rattle.snapshot_starts.specs.declared.fault.StartFault.TheVariants.{TooManyStarts, NoMemory}

-- the start at slice k of the run's request on its telescope
abbrev pub start_at : Run → ℕ → Placement
start_at run k = record { request = run.request; telescope = run.telescope; slice = record { 0 = k } }

-- the starts of a run, slice by slice
abbrev pub starts_of_run : Run → List Placement
starts_of_run run = map (start_at run) (range_with_len run.first.0 run.count)

-- the starts of the runs, run after run
abbrev pub starts_of : List Run → List Placement
starts_of runs = flat_map starts_of_run runs

-- a is before b by request, then telescope, then slice
abbrev pub IsStartBefore : Placement → Placement → Type 0
IsStartBefore a b = (a.request.0 < b.request.0) ⊎ ((a.request ≡ b.request) × IsListedBefore a b)

-- run a is before run b by request, then telescope, then slice, and on one telescope a slice of neither lies between them
abbrev pub IsRunBefore : Run → Run → Type 0
IsRunBefore a b =
    (a.request.0 < b.request.0) ⊎ ((a.request ≡ b.request)
    × ((a.telescope.0 < b.telescope.0) ⊎ ((a.telescope ≡ b.telescope) × (a.first.0 + a.count < b.first.0))))

-- the run has a slice, each of its slices is a start, and neither the slice before them nor the one after them is
pub record IsGreatestRow (starts : List Placement) (run : Run) : Type 0 where
  pub some : 0 < run.count
  pub row : (k : ℕ) → run.first.0 ≤ k → k < run.first.0 + run.count → Contains starts (start_at run k)
  pub before : (k : ℕ) → suc k ≡ run.first.0 → ¬ (Contains starts (start_at run k))
  pub after : ¬ (Contains starts (start_at run (run.first.0 + run.count)))

-- these are the runs of the starts, in order
pub record AreRuns (starts : List Placement) (runs : List Run) : Type 0 where
  pub whole : starts_of runs ≡ starts
  pub greatest : All (IsGreatestRow starts) runs
  pub order : AllPairs IsRunBefore runs

-- the starts of request r
abbrev pub starts_with : List Placement → ℕ → List Placement
starts_with starts r = filter (λ p. p.request.0 == r) starts

-- all possible starts, each once, by request, telescope and slice
pub record AreAllStarts (s : Parts) (starts : List Placement) : Type 0 where
  pub all : IsAllStarts s starts
  pub order : AllPairs IsStartBefore starts

-- why no starts are listed: there are too many, and this is their count
abbrev pub IsCauseOf : Parts → StartFault → Type 0
IsCauseOf s (TooManyStarts count) = (most_starts < count) × IsStartCount s count
IsCauseOf s NoMemory = Unit {0}
