-- When an observation may begin, and the skies of targets.
use Rattle.std.specs.Prelude.{◌≡◌, ℕ, ◌≤◌, ◌<◌, ◌⊎◌, Bool, true, false, ◌&&◌, ◌||◌, ◌==◌, nat_lt, List, [], length, map, slice_index_or, All, HoldsAt}
use Rattle.plan_base.specs.declared.span.Span.{Span}
use Rattle.plan_base.specs.declared.parts.Sky.{Sky}
use Rattle.plan_base.specs.declared.number.TargetNo.{TargetNo}
use Rattle.plan_base.specs.declared.number.SiteNo.{SiteNo}
use Rattle.plan_base.specs.Skies.{IsSkyAt}
use Rattle.plan_base.specs.Snapshot.{IsMoment, IsSortedApart}
use Rattle.bound_checker.specs.declared.stretches.Observation.{Observation}
use Rattle.bound_checker.specs.declared.sight.Sight.{Sight}
use Rattle.bound_checker.specs.Stretches.{DoesFit}

-- the views are the skies of the targets at the site, or, where `found` is false, a target has none there
pub record AreViews (skies : List Sky) (site : SiteNo) (targets : List TargetNo) (found : Bool) (views : List ℕ) : Type 0 where
  pub count : found ≡ true → length views ≡ length targets
  pub each : found ≡ true → (n : ℕ) (d : TargetNo) → n < length targets → IsSkyAt skies (slice_index_or targets n d).0 site.0 (slice_index_or views n 0)
  pub hidden : found ≡ false → (n : ℕ) × (n < length targets) × ((d : TargetNo) (v : ℕ) → ¬ (IsSkyAt skies (slice_index_or targets n d).0 site.0 v))

-- moments, with gaps between the spans
pub record IsClearSpans (spans : List Span) : Type 0 where
  pub moments : All (λ w. IsMoment w.from.0 × IsMoment w.to.0) spans
  pub apart : IsSortedApart spans

-- the spans of the sky at place v
abbrev pub spans_at : List Sky → ℕ → List Span
spans_at skies v = slice_index_or (map (λ y. y.spans) skies) v []

-- what a sight has is as it is in a snapshot
pub record IsClear (x : Sight) : Type 0 where
  pub windows : All (λ w. IsMoment w.from.0 × IsMoment w.to.0) x.windows.now
  pub usable : IsClearSpans x.usable.now
  pub skies : All (λ y. IsClearSpans y.spans) x.skies.now
  pub views : All (λ v. v < length x.skies.now) x.views.now

-- an observation that begins at slice k lies inside a span of each sky that is meant
abbrev pub IsInSkies : List Sky → List ℕ → Observation → ℕ → Type 0
IsInSkies skies views o k = (n : ℕ) → n < length views → DoesFit (spans_at skies (slice_index_or views n 0)) o k

-- it lies inside a window, a usable span, and a span of each sky that is meant
pub record IsInSight (x : Sight) (o : Observation) (k : ℕ) : Type 0 where
  pub window : DoesFit x.windows.now o k
  pub usable : DoesFit x.usable.now o k
  pub skies : IsInSkies x.skies.now x.views.now o k
