-- Seconds in a row that all lie in spans with gaps between them lie in one of the spans.
use Rattle.std.proofs.Common.{◌≡◌, ℕ, ◌<◌, ◌≤◌, ◌⊎◌, inl, inr, List, length, slice_index_or, sym, ◌∙◌, ap, arith}
use Rattle.std.specs.Prelude.{Any}
use Rattle.std.proofs.lemmas.List.{get_or_default}
use Rattle.plan_base.specs.declared.span.Span.{Span}
use Rattle.plan_base.specs.Snapshot.{IsSortedApart}
use Rattle.plan_base.specs.Starts.{HasSecond}
use Rattle.plan_base.specs.BySpans.{OneHasAll}

-- each second from a to the one before b lies in one of the spans
abbrev pub HasEach : List Span → ℕ → ℕ → Type 0
HasEach spans a b = (x : ℕ) → a ≤ x → x < b → Any (λ w. HasSecond w x) spans

pub each_from_all : (spans : List Span) (a b : ℕ) → OneHasAll spans a b → HasEach spans a b
each_from_all spans a b (k, w, l, at, (from, to)) x h g = (k, w, l, at, (omega arith, omega arith))

below_same_above : (i j : ℕ) → ((i < j) ⊎ (j < i)) ⊎ (i ≡ j)
below_same_above i j = grind arith

below_or_not : (i j : ℕ) → (i < j) ⊎ (j ≤ i)
below_or_not i j = grind arith

-- of two spans with a gap between them the second after one isn't in the other
never_after : (spans : List Span) (i j : ℕ) (v w : Span) → IsSortedApart spans → i < length spans → j < length spans → slice_index_or spans i v ≡ v
    → slice_index_or spans j w ≡ w
    → (a : ℕ) → HasSecond v a → ¬ (HasSecond w v.to.0)
never_after spans i j v w apart l m at_i at_j a (v_from, v_to) (w_from, w_to) = elim (below_same_above i j) [
  | inl (inl below) ↦
      let gap : (slice_index_or spans i v).to.0 < (slice_index_or spans j v).from.0 = apart.apart i j v below m in
      let left : (slice_index_or spans i v).to.0 ≡ v.to.0 = ap (λ u. u.to.0) at_i in
      let right : (slice_index_or spans j v).from.0 ≡ w.from.0 = ap (λ u. u.from.0) (get_or_default spans j v w m ∙ at_j) in
      omega arith
  | inl (inr above) ↦
      let gap : (slice_index_or spans j v).to.0 < (slice_index_or spans i v).from.0 = apart.apart j i v above l in
      let left : (slice_index_or spans j v).to.0 ≡ w.to.0 = ap (λ u. u.to.0) (get_or_default spans j v w m ∙ at_j) in
      let right : (slice_index_or spans i v).from.0 ≡ v.from.0 = ap (λ u. u.from.0) at_i in
      omega arith
  | inr same ↦
      let one : v ≡ w = sym at_i ∙ ap (λ (k : ℕ). slice_index_or spans k v) same ∙ get_or_default spans j v w m ∙ at_j in
      let ends : v.to.0 ≡ w.to.0 = ap (λ u. u.to.0) one in
      omega arith
]

pub all_from_each : (spans : List Span) (a b : ℕ) → IsSortedApart spans → a < b → HasEach spans a b → OneHasAll spans a b
all_from_each spans a b apart h each =
    let first = each a (omega arith) h in
    let span : Span = first.1 in
    let has : HasSecond span a = first.4 in
    elim (below_or_not span.to.0 b) [
      | inl below ↦ let next = each span.to.0 (omega (arith, has.1)) below in
          absurd (never_after spans first.0 next.0 span next.1 apart first.2 next.2 first.3 next.3 a has next.4)
      | inr not_below ↦ (first.0, span, first.2, first.3, (has.0, not_below))
    ]
