-- What the tests of a claim say one by one.
use Rattle.std.specs.Prelude.{◌≡◌, ◌≢◌, ℕ, ◌+◌, ◌*◌, ◌≤◌, ◌<◌, ◌==◌, List, length, slice_get, slice_index_or, Some, count_by, All, AllPairs}
use Rattle.plan_base.specs.declared.parts.Parts.{Parts}
use Rattle.plan_base.specs.declared.parts.RequestPart.{RequestPart}
use Rattle.plan_base.specs.declared.parts.GroupPart.{GroupPart}
use Rattle.plan_base.specs.declared.parts.Op.TheVariants.{OneOf, And}
use Rattle.plan_base.specs.declared.parts.Sky.{Sky}
use Rattle.plan_base.specs.declared.claim.Placement.{Placement}
use Rattle.plan_base.specs.Limits.{most_seconds, most_value, most_fade}
use Rattle.plan_base.specs.Requests.{IsKnown, group_of, seconds_of, request_value, fade_of, windows_of, telescopes_of, targets_of}
use Rattle.plan_base.specs.Snapshot.{IsMoment}
use Rattle.plan_base.specs.Starts.{site_of}
use Rattle.plan_base.specs.Feasible.{requests_of, quota_seconds}
use Rattle.plan_base.specs.BySpans.{OneHasAll, usable_of, IsVisibleThrough}

-- each placement is of a request that the snapshot has
abbrev pub IsEachKnown : Parts → List Placement → Type 0
IsEachKnown s plan = All (λ p. IsKnown s p.request.0) plan

-- q is what the snapshot has of request r
pub record IsRequestOf (s : Parts) (r : ℕ) (q : RequestPart) : Type 0 where
  pub seconds : seconds_of s r ≡ q.seconds
  pub value : request_value s r ≡ q.value
  pub fade : fade_of s r ≡ q.fade
  pub windows : windows_of s r ≡ q.windows
  pub telescopes : telescopes_of s r ≡ q.telescopes
  pub targets : targets_of s r ≡ q.targets

-- the numbers of a request lie in their ranges, and its telescopes are among n
pub record IsRequestInRanges (n : ℕ) (q : RequestPart) : Type 0 where
  pub some_seconds : 1 ≤ q.seconds
  pub most_seconds : q.seconds ≤ most_seconds
  pub most_value : q.value ≤ most_value
  pub most_fade : q.fade ≤ most_fade
  pub moments : All (λ w. IsMoment w.from.0) q.windows
  pub telescopes : All (λ t. t.0 < n) q.telescopes

-- from second a to the one before b the request can be observed on telescope t: it lies inside a window and a usable span, and each target is visible
pub record CanObserve (s : Parts) (q : RequestPart) (t a b : ℕ) : Type 0 where
  pub window : OneHasAll q.windows a b
  pub usable : OneHasAll (usable_of s t) a b
  pub visible : All (λ target. IsVisibleThrough s target.0 (site_of s t) a b) q.targets

-- how many placements are of requests of the group at place g
abbrev pub placed_in : Parts → List Placement → ℕ → ℕ
placed_in s plan g = count_by (λ p. group_of s p.request.0 == g) plan

-- the counts tell of each group how many of its requests the plan places
pub record AreGroupCounts (s : Parts) (plan : List Placement) (counts : List ℕ) : Type 0 where
  pub groups : length counts ≡ length s.groups
  pub each : (g : ℕ) → slice_index_or counts g 0 ≡ placed_in s plan g

-- the group is a ONEOF of which two requests are placed or more
abbrev pub IsTwice : GroupPart → ℕ → Type 0
IsTwice x placed = (x.op ≡ OneOf) × (2 ≤ placed)

-- the group is an AND of which some requests are placed and not all
abbrev pub IsPartial : GroupPart → ℕ → Type 0
IsPartial x placed = (x.op ≡ And) × (0 < placed) × (placed < length x.requests)

-- Q holds of the group at place g and its count
abbrev pub HoldsOfGroup : (GroupPart → ℕ → Type 0) → List GroupPart → List ℕ → ℕ → Type 0
HoldsOfGroup Q groups counts g = (x : GroupPart) × (slice_get groups g ≡ Some x) × Q x (slice_index_or counts g 0)

-- the sums are the seconds that the plan places of each quota
pub record AreQuotaSums (s : Parts) (plan : List Placement) (sums : List ℕ) : Type 0 where
  pub quotas : length sums ≡ length s.quotas
  pub each : (q : ℕ) → q < length s.quotas → slice_index_or sums q 0 ≡ quota_seconds s q (requests_of plan)
  pub most : (q : ℕ) → slice_index_or sums q 0 ≤ length plan * most_seconds
