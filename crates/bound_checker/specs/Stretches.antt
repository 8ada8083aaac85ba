-- Slices in a row at which an observation may begin, or may not.
use Rattle.std.specs.Prelude.{ℕ, ◌+◌, ◌*◌, ◌≤◌, ◌<◌, ◌↔◌, IsTrue, true, if◌then◌else◌, min, List}
use Rattle.plan_base.specs.Limits.{most_seconds, least_len, most_len}
use Rattle.plan_base.specs.declared.span.Span.{Span}
use Rattle.plan_base.specs.BySpans.{OneHasAll}
use Rattle.bound_checker.specs.declared.stretches.Observation.{Observation}
use Rattle.bound_checker.specs.declared.stretches.Stretch.{Stretch}

-- the lengths are in their ranges
pub record IsObservation (o : Observation) : Type 0 where
  pub len_least : least_len ≤ o.len
  pub len_most : o.len ≤ most_len
  pub seconds_least : 1 ≤ o.seconds
  pub seconds_most : o.seconds ≤ most_seconds

-- an observation that begins at slice k lies inside the span
abbrev pub DoesFitIn : Span → Observation → ℕ → Type 0
DoesFitIn w o k = (w.from.0 ≤ k * o.len) × (k * o.len + o.seconds ≤ w.to.0)

-- an observation that begins at slice k lies inside one of the spans
abbrev pub DoesFit : List Span → Observation → ℕ → Type 0
DoesFit spans o k = OneHasAll spans (k * o.len) (k * o.len + o.seconds)

-- P holds of all slices from k to the one before the end of the stretch, or of none of them
pub record IsStretch (P : ℕ → Type 0) (k : ℕ) (x : Stretch) : Type 0 where
  pub later : k < x.end
  pub alike : (j : ℕ) → k ≤ j → j < x.end → IsTrue x.fits ↔ P j

-- the stretch of two things together, from their stretches
abbrev pub both : Stretch → Stretch → Stretch
both a b = if a.fits then (if b.fits then record { fits = true; end = min a.end b.end } else b) else a
