-- A request of a snapshot on one of its telescopes, and when it may start there.
use Rattle.std.specs.Prelude.{◌≡◌, ℕ, ◌+◌, ◌*◌, ◌≤◌, ◌<◌, ◌↔◌, ◌⊎◌, IsTrue, List, map, flat_map, All, Contains}
use Rattle.plan_base.specs.declared.parts.Parts.{Parts}
use Rattle.plan_base.specs.declared.parts.RequestPart.{RequestPart}
use Rattle.plan_base.specs.declared.parts.TelescopePart.{TelescopePart}
use Rattle.plan_base.specs.declared.number.RequestNo.{RequestNo}
use Rattle.plan_base.specs.declared.number.TelescopeNo.{TelescopeNo}
use Rattle.plan_base.specs.declared.number.TargetNo.{TargetNo}
use Rattle.plan_base.specs.declared.claim.Placement.{Placement}
use Rattle.plan_base.specs.Requests.{listed}
use Rattle.plan_base.specs.Starts.{slices_for, site_of, IsPossibleStart}
use Rattle.plan_base.specs.BySpans.{OneHasAll, usable_of, IsVisibleThrough}
use Rattle.interval_set.specs.Spans.{has, IsSortedApart}
use Rattle.snapshot_starts.specs.declared.pair.Pair.{Pair}
use Rattle.snapshot_starts.specs.declared.pair.PairSlices.{PairSlices}

-- an observation of the request that begins with slice k lies within the horizon and inside one of its windows
pub record IsTimely (s : Parts) (q : RequestPart) (k : ℕ) : Type 0 where
  pub begins : s.first.0 ≤ k
  pub ends : k + slices_for s.len q.seconds ≤ s.first.0 + s.slices
  pub window : OneHasAll q.windows (k * s.len) (k * s.len + q.seconds)

-- all seconds from a to the one before b the telescope is usable, and sees all targets
pub record IsOpen (s : Parts) (telescope : TelescopePart) (targets : List TargetNo) (a b : ℕ) : Type 0 where
  pub usable : OneHasAll telescope.usable a b
  pub visible : All (λ target. IsVisibleThrough s target.0 telescope.site.0 a b) targets

-- the request may start on telescope t, which is one of its own, at slice k
pub record CanStart (s : Parts) (q : RequestPart) (t : TelescopeNo) (k : ℕ) : Type 0 where
  pub able : Contains q.telescopes t
  pub timely : IsTimely s q k
  pub usable : OneHasAll (usable_of s t.0) (k * s.len) (k * s.len + q.seconds)
  pub visible : All (λ target. IsVisibleThrough s target.0 (site_of s t.0) (k * s.len) (k * s.len + q.seconds)) q.targets

-- the start of the pair's request on its telescope at slice k
abbrev pub pair_start : Pair → ℕ → Placement
pair_start pair k = record { request = pair.request; telescope = pair.telescope; slice = record { 0 = k } }

-- the request on the telescope
abbrev pub pair_of : RequestNo → TelescopeNo → Pair
pair_of r t = record { request = r; telescope = t }

-- a request on each of its telescopes
abbrev pub pairs_of_request : RequestPart → List Pair
pairs_of_request q = map (pair_of q.request) q.telescopes

-- each request on each of its telescopes
abbrev pub pairs_of : Parts → List Pair
pairs_of s = flat_map (λ x. pairs_of_request x.request) (listed s)

-- a is before b by request, then telescope
abbrev pub IsPairBefore : Pair → Pair → Type 0
IsPairBefore a b = (a.request.0 < b.request.0) ⊎ ((a.request ≡ b.request) × (a.telescope.0 < b.telescope.0))

-- these are the slices at which the pair has a possible start
pub record ArePairSlices (s : Parts) (x : PairSlices) : Type 0 where
  pub starts : (k : ℕ) → IsTrue (has x.slices k) ↔ IsPossibleStart s (pair_start x.pair k)
  pub sorted : IsSortedApart x.slices
