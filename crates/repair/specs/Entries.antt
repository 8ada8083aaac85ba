-- What is known of a request when a start is sought for it.
use Rattle.std.specs.Prelude.{◌≡◌, ℕ, List, map, slice_index_or, All, AllPairs, Contains}
use Rattle.plan_base.specs.declared.parts.Parts.{Parts}
use Rattle.plan_base.specs.declared.parts.RequestPart.{RequestPart}
use Rattle.plan_base.specs.declared.claim.Placement.{Placement}
use Rattle.plan_base.specs.Requests.{IsKnown, place_of}
use Rattle.plan_base.specs.Starts.{IsPossibleStart, size_of}
use Rattle.snapshot_starts.specs.declared.run.Run.{Run}
use Rattle.snapshot_starts.specs.Runs.{IsRunBefore}
use Rattle.repair.specs.declared.entry.Entry.{Entry}
use Rattle.repair.specs.Apart.{IsPossibleRun, HasSlice}

-- p is a start of the run
pub record IsOfRun (run : Run) (p : Placement) : Type 0 where
  pub request : p.request ≡ run.request
  pub telescope : p.telescope ≡ run.telescope
  pub slice : HasSlice run p.slice.0

-- these are the runs of all possible starts of request r, by telescope, then slice
pub record AreRunsFor (s : Parts) (r : ℕ) (runs : List Run) : Type 0 where
  pub request : All (λ run. run.request.0 ≡ r) runs
  pub possible : All (IsPossibleRun s) runs
  pub complete : (p : Placement) → p.request.0 ≡ r → IsPossibleStart s p → (run : Run) × Contains runs run × IsOfRun run p
  pub order : AllPairs IsRunBefore runs

-- what is known of a request of the snapshot
pub record IsEntry (s : Parts) (e : Entry) : Type 0 where
  pub known : IsKnown s e.request.0
  pub place : e.place ≡ place_of s e.request.0
  pub size : e.size ≡ size_of s e.request.0
  pub runs : AreRunsFor s e.request.0 e.runs

-- the numbers of the requests
abbrev pub numbers_of : List Entry → List ℕ
numbers_of entries = map (λ e. e.request.0) entries

-- the number of the i-th request
abbrev pub number_at : List RequestPart → ℕ → ℕ
number_at requests i = slice_index_or (map (λ q. q.request.0) requests) i 0
