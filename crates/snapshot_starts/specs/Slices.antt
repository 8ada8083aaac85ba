-- Sets of slices, as lists of spans whose numbers are slices.
use Rattle.std.specs.Prelude.{ℕ, ◌+◌, ◌*◌, ◌≤◌, ◌↔◌, IsTrue, List}
use Rattle.plan_base.specs.declared.parts.Parts.{Parts}
use Rattle.plan_base.specs.declared.span.Span.{Span}
use Rattle.plan_base.specs.Starts.{slices_for}
use Rattle.interval_set.specs.Spans.{span_has, has, IsSortedApart}

-- the slices k with P k, sorted with gaps
pub record AreSlices (P : ℕ → Type 0) (slices : List Span) : Type 0 where
  pub each : (k : ℕ) → IsTrue (has slices k) ↔ P k
  pub sorted : IsSortedApart slices

-- an observation of d seconds that begins with slice k lies in the span
abbrev pub LiesIn : ℕ → ℕ → Span → ℕ → Type 0
LiesIn len d span k = (span.from.0 ≤ k * len) × (k * len + d ≤ span.to.0)

-- the span of slices at which an observation of d seconds begins that lies in the span
pub record AreSlicesIn (len d : ℕ) (span slices : Span) : Type 0 where
  pub each : (k : ℕ) → IsTrue (span_has slices k) ↔ LiesIn len d span k

-- the span of slices at which an observation of d seconds begins that lies within the horizon
pub record IsHorizonFor (s : Parts) (d : ℕ) (slices : Span) : Type 0 where
  pub each : (k : ℕ) → IsTrue (span_has slices k) ↔ (s.first.0 ≤ k) × (k + slices_for s.len d ≤ s.first.0 + s.slices)
