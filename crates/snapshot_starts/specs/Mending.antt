-- What of the starts of one snapshot still holds at another.
use Rattle.std.specs.Prelude.{◌≡◌, ℕ, ◌+◌, ◌*◌, ◌≤◌, ◌<◌, ◌↔◌, List, length, All, HoldsAt}
use Rattle.plan_base.specs.Limits.{most_starts}
use Rattle.plan_base.specs.declared.parts.Parts.{Parts}
use Rattle.plan_base.specs.declared.parts.RequestPart.{RequestPart}
use Rattle.plan_base.specs.declared.parts.Sky.{Sky}
use Rattle.plan_base.specs.declared.span.Span.{Span}
use Rattle.plan_base.specs.declared.claim.Placement.{Placement}
use Rattle.plan_base.specs.declared.number.TargetNo.{TargetNo}
use Rattle.plan_base.specs.declared.number.SiteNo.{SiteNo}
use Rattle.plan_base.specs.Requests.{listed, place_of, IsKnown, seconds_of, windows_of, telescopes_of, targets_of}
use Rattle.plan_base.specs.Starts.{slices_for, site_of}
use Rattle.plan_base.specs.BySpans.{OneHasAll, usable_of, IsVisibleThrough}
use Rattle.snapshot_starts.specs.declared.steady.SkyKey.{SkyKey}
use Rattle.snapshot_starts.specs.declared.steady.Steady.{Steady}
use Rattle.snapshot_starts.specs.Runs.{AreAllStarts}

-- what is kept of a snapshot are all its starts, which are few enough
pub record IsHeld (s : Parts) (starts : List Placement) : Type 0 where
  pub all : AreAllStarts s starts
  pub few : length starts ≤ most_starts

-- q is what the snapshot has as the request with its number
pub record IsRequest (s : Parts) (q : RequestPart) : Type 0 where
  pub known : IsKnown s q.request.0
  pub listed : HoldsAt (λ x. x.request ≡ q) (listed s) (place_of s q.request.0)

-- the seconds from a to the one before b are some, and lie in the horizon
pub record IsInHorizon (s : Parts) (a b : ℕ) : Type 0 where
  pub some : a < b
  pub begins : s.first.0 * s.len ≤ a
  pub ends : b ≤ (s.first.0 + s.slices) * s.len

-- of all times that lie in both horizons, P holds where Q does
abbrev pub AgreeIn : Parts → Parts → (ℕ → ℕ → Type 0) → (ℕ → ℕ → Type 0) → Type 0
AgreeIn was s P Q = (a b : ℕ) → IsInHorizon was a b → IsInHorizon s a b → P a b ↔ Q a b

-- whatever lies in both horizons lies within these times
abbrev pub AreShared : Parts → Parts → Span → Type 0
AreShared was s times = (a b : ℕ) → IsInHorizon was a b → IsInHorizon s a b → (times.from.0 ≤ a) × (b ≤ times.to.0)

-- within the times, whatever lies inside one of the spans of xs lies inside one of ys, and the other way round
abbrev pub IsSameWithin : Span → List Span → List Span → Type 0
IsSameWithin times xs ys = (a b : ℕ) → a < b → times.from.0 ≤ a → b ≤ times.to.0 → OneHasAll xs a b ↔ OneHasAll ys a b

-- the snapshot had the request of this number with the same times, telescopes and targets
pub record IsAskedAlike (was : Parts) (q : RequestPart) : Type 0 where
  pub known : IsKnown was q.request.0
  pub seconds : seconds_of was q.request.0 ≡ q.seconds
  pub windows : windows_of was q.request.0 ≡ q.windows
  pub telescopes : telescopes_of was q.request.0 ≡ q.telescopes
  pub targets : targets_of was q.request.0 ≡ q.targets

-- within the times, the target was visible from the site when it is
pub record IsSeenAlike (was : Parts) (sky : Sky) (times : Span) : Type 0 where
  pub each : (a b : ℕ) → a < b → times.from.0 ≤ a → b ≤ times.to.0 → IsVisibleThrough was sky.target.0 sky.site.0 a b ↔ OneHasAll sky.spans a b

-- both snapshots ask for the request alike, in slices that are as long
pub record IsSteadyRequest (was s : Parts) (r : ℕ) : Type 0 where
  pub len : was.len ≡ s.len
  pub known : IsKnown was r
  pub seconds : seconds_of was r ≡ seconds_of s r
  pub windows : windows_of was r ≡ windows_of s r
  pub telescopes : telescopes_of was r ≡ telescopes_of s r
  pub targets : targets_of was r ≡ targets_of s r

-- the telescope stands where it stood, and can observe when it could
pub record IsSteadyTelescope (was s : Parts) (t : ℕ) : Type 0 where
  pub site : site_of was t ≡ site_of s t
  pub usable : AgreeIn was s (OneHasAll (usable_of was t)) (OneHasAll (usable_of s t))

-- the target is visible from the site when it was
abbrev pub IsSteadySky : Parts → Parts → SkyKey → Type 0
IsSteadySky was s key = AgreeIn was s (IsVisibleThrough was key.target.0 key.site.0) (IsVisibleThrough s key.target.0 key.site.0)

-- the key of the sky of a target at a site
abbrev pub sky_key : TargetNo → SiteNo → SkyKey
sky_key target site = record { target = target; site = site }

-- what is listed is the same in both snapshots
pub record AreSteady (was s : Parts) (x : Steady) : Type 0 where
  pub requests : All (λ r. IsSteadyRequest was s r.0) x.requests.items
  pub telescopes : All (λ t. IsSteadyTelescope was s t.0) x.telescopes.items
  pub skies : All (IsSteadySky was s) x.skies.items

-- an observation of d seconds that begins with slice k lies within the horizon
abbrev pub IsWithinHorizon : Parts → ℕ → ℕ → Type 0
IsWithinHorizon s d k = (s.first.0 ≤ k) × (k + slices_for s.len d ≤ s.first.0 + s.slices)

-- all that the starts of request r on telescope t depend on is the same: the request, the telescope and the skies of the targets
pub record IsSteadyPair (was s : Parts) (r t : ℕ) : Type 0 where
  pub request : IsSteadyRequest was s r
  pub telescope : IsSteadyTelescope was s t
  pub skies : All (λ target. AgreeIn was s (IsVisibleThrough was target.0 (site_of s t)) (IsVisibleThrough s target.0 (site_of s t))) (targets_of s r)
