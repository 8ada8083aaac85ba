-- What holds of the windows of every cadence.
use Rattle.std.specs.Prelude.{◌≡◌, ℕ, ◌+◌, ◌≤◌, ◌<◌, ◌⊎◌, ◌↔◌, List, All, Contains, Ok}
use Rattle.std.specs.List.Sorted.{IsNonDecreasingBy}
use Rattle.plan_base.specs.declared.span.Span.{Span}
use Rattle.request_model.specs.declared.request.Cadence.{Cadence}
use Rattle.request_times.specs.Cadence.{centre, centre_count, window, expansion}

-- the window has no second outside the cadence
pub record IsInside (c : Cadence) (w : Span) : Type 0 where
  pub from : c.start.0 ≤ w.from.0
  pub to : w.to.0 ≤ c.end.0

-- the windows lie inside start and end, none begins or ends before the one before it, none is shorter than the duration, and each centre
-- below the end has its window or was too short
pub record IsSound (c : Cadence) (seconds : ℕ) (windows : List Span) : Type 0 where
  pub inside : All (IsInside c) windows
  pub begins_rise : IsNonDecreasingBy (λ w. w.from.0) windows
  pub ends_rise : IsNonDecreasingBy (λ w. w.to.0) windows
  pub long : All (λ w. w.from.0 + seconds ≤ w.to.0) windows
  pub each : (k : ℕ) → centre c k < c.end.0 → Contains windows (window c (centre c k))
      ⊎ ((window c (centre c k)).to.0 < (window c (centre c k)).from.0 + seconds)

-- whatever a cadence is expanded to is sound
abbrev pub WindowsAreSound : Type 0
WindowsAreSound = (c : Cadence) (seconds : ℕ) (windows : List Span) → expansion c seconds ≡ Ok windows → IsSound c seconds windows

-- the counted centres are those below the end
abbrev pub CentresAreCounted : Type 0
CentresAreCounted = (c : Cadence) (k : ℕ) → 0 < c.period → (k < centre_count c) ↔ (centre c k < c.end.0)
