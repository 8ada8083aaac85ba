-- The seconds of a line's spans.
use Rattle.std.proofs.Common.{◌≡◌, ℕ, ◌<◌, nat_le, nat_lt, true, inl, inr, List, [], ◌∷◌, All, arith}
use Rattle.std.proofs.lemmas.Bool.{or_cases, and_parts, ltb-true}
use Rattle.std.proofs.lemmas.List.Elements.{All-head, All-tail}
use Rattle.plan_base.specs.declared.span.Span.{Span}
use Rattle.interval_set.specs.Spans.{has, span_has}
use Rattle.request_model.specs.Ranges.{IsWindow}
use Rattle.desk_core.specs.Seconds.{end_of_time}

-- a second of a window is before the end of time
early_in : (w : Span) (x : ℕ) → IsWindow w → span_has w x ≡ true → x < end_of_time
early_in w x window h = let before : x < w.to.0 = ltb-true x w.to.0 (and_parts (nat_le w.from.0 x) (nat_lt x w.to.0) h).1 in
    let last = window.last in omega arith

-- so is each second of windows
pub early : (spans : List Span) → All IsWindow spans → (x : ℕ) → has spans x ≡ true → x < end_of_time
early [] windows x h = cc
early (w ∷ ws) windows x h = elim (or_cases (span_has w x) (has ws x) h) [
  | inl here ↦ early_in w x (All-head IsWindow w ws windows) here
  | inr later ↦ early ws (All-tail IsWindow w ws windows) x later
]
