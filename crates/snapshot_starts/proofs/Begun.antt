-- Spans with gaps between them: the last that has begun has all seconds that any of them has.
use Rattle.std.proofs.Common.{◌≡◌, ℕ, ◌-◌, ◌<◌, ◌≤◌, inl, inr, List, length, slice_index_or, ap, arith}
use Rattle.std.specs.Prelude.{nat_le, IsTrue, ◌↔◌}
use Rattle.std.proofs.lemmas.Bool.{cases_lt}
use Rattle.std.proofs.lemmas.Bool.Decides.{nat_tests}
use Rattle.std.proofs.lemmas.List.{get_or_default}
use Rattle.plan_base.specs.declared.span.Span.{Span}
use Rattle.plan_base.specs.BySpans.{OneHasAll}
use Rattle.interval_set.specs.Spans.{IsSortedApart}
use Rattle.interval_set.specs.Steps.{IsBegunBy}
use Rattle.interval_set.proofs.Searches.{ends_rise}

-- what a read past the end gives
abbrev pub nothing : Span
nothing = record { from = record { 0 = 0 }; to = record { 0 = 0 } }

has_last : (spans : List Span) (a b i : ℕ) → IsBegunBy spans a i → 0 < i → b ≤ (slice_index_or spans (i - 1) nothing).to.0 → OneHasAll spans a b
has_last spans a b i begun some h =
    let last : Span = slice_index_or spans (i - 1) nothing in
    let l : i - 1 < length spans = omega (arith, begun.within) in
    (i - 1, last, l, get_or_default spans (i - 1) last nothing l, (begun.begun (i - 1) nothing (omega arith), h))

is_begun : (spans : List Span) (a i k : ℕ) (w : Span) → IsBegunBy spans a i → k < length spans → slice_index_or spans k w ≡ w → w.from.0 ≤ a → k < i
is_begun spans a i k w begun l e from = elim (cases_lt k i) [
  | inl below ↦ below
  | inr above ↦
      let same : (slice_index_or spans k w).from.0 ≡ w.from.0 = ap (λ (v : Span). v.from.0) e in
      let later : a < (slice_index_or spans k w).from.0 = begun.later k w above l in
      absurd (omega arith)
]

last_has : (spans : List Span) (a b i : ℕ) → IsSortedApart spans → IsBegunBy spans a i → OneHasAll spans a b → b ≤ (slice_index_or spans (i - 1) nothing).to.0
last_has spans a b i sorted begun (k, w, l, e, (from, to)) =
    let below : k < i = is_begun spans a i k w begun l e from in
    let within : i ≤ length spans = begun.within in
    let ends : (slice_index_or spans k w).to.0 ≤ (slice_index_or spans (i - 1) w).to.0 = ends_rise spans sorted k (i - 1) w (omega arith) (omega arith) in
    let same : (slice_index_or spans k w).to.0 ≡ w.to.0 = ap (λ (v : Span). v.to.0) e in
    let other : (slice_index_or spans (i - 1) w).to.0 ≡ (slice_index_or spans (i - 1) nothing).to.0 =
    ap (λ (v : Span). v.to.0) (get_or_default spans (i - 1) w nothing (omega arith)) in
    omega arith

pub in_last : (spans : List Span) (a b i : ℕ) → IsSortedApart spans → IsBegunBy spans a i → 0 < i
    → IsTrue (nat_le b (slice_index_or spans (i - 1) nothing).to.0) ↔ OneHasAll spans a b
in_last spans a b i sorted begun some =
    (λ yes. has_last spans a b i begun some (grind (arith, nat_tests)), λ has. let ends = last_has spans a b i sorted begun has in grind (arith, nat_tests))

pub none_begun : (spans : List Span) (a b i : ℕ) → IsBegunBy spans a i → i ≤ 0 → ¬ (OneHasAll spans a b)
none_begun spans a b i begun none (k, w, l, e, (from, to)) = let below : k < i = is_begun spans a i k w begun l e from in absurd (omega arith)
