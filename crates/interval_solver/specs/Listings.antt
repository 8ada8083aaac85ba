-- Starts by slice, and the possible starts that they are.
use Rattle.std.specs.Prelude.{◌≡◌, ℕ, ◌+◌, ◌-◌, ◌≤◌, ◌<◌, ◌⊎◌, List, [], ◌∷◌, ◌++◌, length, slice_index_or, All, AllPairs, Contains}
use Rattle.plan_base.specs.declared.parts.Parts.{Parts}
use Rattle.plan_base.specs.declared.claim.Placement.{Placement}
use Rattle.plan_base.specs.Requests.{place_of}
use Rattle.plan_base.specs.Starts.{size_of, worth_at, IsPossibleStart}
use Rattle.snapshot_starts.specs.declared.run.Run.{Run}
use Rattle.snapshot_starts.specs.Runs.{starts_of_run, starts_of, IsRunBefore}
use Rattle.interval_solver.specs.declared.start.Start.{Start}
use Rattle.interval_solver.specs.declared.offer.Offer.{Offer}
use Rattle.interval_solver.specs.Offers.{offer_worth}
use Rattle.plan_base.specs.Tables.{IsStartOn, row}

-- the start of an offer in row i, where the rows begin at the slice `first`
abbrev pub start_in : Offer → ℕ → ℕ → Start
start_in o first i = record { worth = offer_worth o (first + i); place = o.place; after = i + o.size }

-- the rows of the slices from one to the one before another have the offer's starts at their ends, and the others are as before
pub record AreAdded (o : Offer) (first from to : ℕ) (old new : List (List Start)) : Type 0 where
  pub count : length new ≡ length old
  pub added : (i : ℕ) → i < length old → from ≤ first + i → first + i < to → row new i ≡ row old i ++ start_in o first i ∷ []
  pub kept : (i : ℕ) → (first + i < from) ⊎ (to ≤ first + i) → row new i ≡ row old i

-- these are runs, in order, of all possible starts
pub record AreAllRuns (s : Parts) (runs : List Run) : Type 0 where
  pub some : All (λ run. 0 < run.count) runs
  pub possible : All (IsPossibleStart s) (starts_of runs)
  pub complete : (p : Placement) → IsPossibleStart s p → Contains (starts_of runs) p
  pub order : AllPairs IsRunBefore runs

-- p is a start of one of the first n runs
pub record IsOfFirst (runs : List Run) (n : ℕ) (p : Placement) : Type 0 where
  pub place : ℕ
  pub below : place < n
  pub within : place < length runs
  pub has : (d : Run) → Contains (starts_of_run (slice_index_or runs place d)) p

-- what the row says of the possible start p
pub record IsToldBy (s : Parts) (p : Placement) (x : Start) : Type 0 where
  pub place : x.place ≡ place_of s p.request.0
  pub worth : x.worth ≡ worth_at s p
  pub after : s.first.0 + x.after ≡ p.slice.0 + size_of s p.request.0

-- the start in row i is the possible start p of telescope t, of which P holds
pub record IsStartAt (s : Parts) (t : ℕ) (P : Placement → Type 0) (i : ℕ) (x : Start) (p : Placement) : Type 0 where
  pub start : IsStartOn s t p
  pub holds : P p
  pub at : p.slice.0 ≡ s.first.0 + i
  pub told : IsToldBy s p x

-- row i has all possible starts of telescope t at slice i of the horizon of which P holds, by the places of their requests
pub record IsListing (s : Parts) (t : ℕ) (P : Placement → Type 0) (rows : List (List Start)) : Type 0 where
  pub count : length rows ≡ s.slices
  pub possible : (i : ℕ) (x : Start) → Contains (row rows i) x → (p : Placement) × IsStartAt s t P i x p
  pub complete : (p : Placement) → IsStartOn s t p → P p → (x : Start) × Contains (row rows (p.slice.0 - s.first.0)) x × IsToldBy s p x
  pub rising : (i : ℕ) → AllPairs (λ a b. a.place < b.place) (row rows i)
