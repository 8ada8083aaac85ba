-- What the look-ups find in a set.
use Rattle.std.proofs.Common.{◌≡◌, ℕ, ◌-◌, ◌<◌, ◌≤◌, max, Bool, true, false, List, length, get_or, ap, inl, inr, arith}
use Rattle.std.specs.Prelude.{nat_le, IsTrue}
use Rattle.std.specs.List.Sorted.{IsPartitionPoint, IsNonDecreasingBy}
use Rattle.std.specs.Ordering.{is_le, nat_cmp}
use Rattle.std.proofs.lemmas.Bool.{cases_lt}
use Rattle.std.proofs.lemmas.Bool.Decides.{nat_tests}
use Rattle.plan_base.specs.declared.span.Span.{Span}
use Rattle.interval_set.specs.Spans.{span_has, has, IsSortedApart, HasAll, HasNone, IsFirstIn}
use Rattle.interval_set.specs.Steps.{IsBegunBy, IsEndedBy}
use Rattle.interval_set.proofs.Seconds.{IsAt, at_is, none_between, has_at, nonempty_at}

-- what a binary search answers, by what has begun or by what has ended
pub begun_by : (spans : List Span) (x i : ℕ) → i ≤ length spans
    → IsPartitionPoint (λ s. nat_le s.from.0 x ≡ true) (λ s. nat_le s.from.0 x ≡ false) spans i → IsBegunBy spans x i
begun_by spans x i within point = record {
  within = within;
  begun = λ k d lt. grind (arith, nat_tests, point.0 k d (omega arith) lt);
  later = λ k d le lt. grind (arith, nat_tests, point.1 k d le lt);
}

pub ended_by : (spans : List Span) (x i : ℕ) → i ≤ length spans
    → IsPartitionPoint (λ s. nat_le s.to.0 x ≡ true) (λ s. nat_le s.to.0 x ≡ false) spans i → IsEndedBy spans x i
ended_by spans x i within point = record {
  within = within;
  ended = λ k d lt. grind (arith, nat_tests, point.0 k d (omega arith) lt);
  later = λ k d le lt. grind (arith, nat_tests, point.1 k d le lt);
}

-- spans end in order
pub ends_rise : (spans : List Span) → IsSortedApart spans → IsNonDecreasingBy (λ s. s.to.0) spans
ends_rise spans sorted i j d le in_range = elim (cases_lt i j) [
  | inl lt ↦ omega (arith, sorted.apart i j d lt in_range, sorted.nonempty j d in_range)
  | inr ge ↦ let same : i ≡ j = omega arith in omega (arith, ap (λ k. (get_or spans k d).to.0) same)
]

-- the comparison that a search makes
pub le_test : (a b : ℕ) → is_le (nat_cmp a b) ≡ nat_le a b
le_test a b = grind (arith, nat_tests)

-- a span lies in the last set span that has begun, or has a second that is no one's
pub covers_exactly : (spans : List Span) (span last : Span) (i : ℕ) (r : Bool) → IsSortedApart spans → IsBegunBy spans span.from.0 i → span.from.0 < span.to.0
    → 0 < i → IsAt spans (i - 1) last → r ≡ is_le (nat_cmp span.to.0 last.to.0) → (IsTrue r → HasAll spans span) × (HasAll spans span → IsTrue r)
covers_exactly spans span last i r sorted begun nonempty some at answer = elim (cases_lt last.to.0 span.to.0) [
  | inl short ↦
      let x = max span.from.0 last.to.0 in
      let inside : span_has span x ≡ true = grind (arith, nat_tests) in
      let outside : has spans x ≡ false = none_between spans i x
      (λ k d below. elim (cases_lt k (i - 1)) [
        | inl before ↦ omega (
          arith,
          sorted.apart k (i - 1) d before at.in_range,
          sorted.nonempty (i - 1) d at.in_range,
          ap (λ (s : Span). s.to.0) (at_is spans (i - 1) last at d),
        )
        | inr from ↦ let same : k ≡ i - 1 = omega arith in rw same (omega (arith, ap (λ (s : Span). s.to.0) (at_is spans (i - 1) last at d)))
      ])
      (λ k d from lt. omega (
        arith,
        begun.later k d from lt,
        sorted.apart (i - 1) k d (omega arith) lt,
        ap (λ (s : Span). s.to.0) (at_is spans (i - 1) last at d),
      )) in
      (λ yes. absurd (grind (arith, nat_tests)), λ all. absurd (grind (arith, all x inside)))
  | inr long ↦
      let first : last.from.0 ≤ span.from.0 = omega (arith, begun.begun (i - 1) last (omega arith), ap (λ (s : Span). s.from.0) at.is) in
      (λ _ x inside. has_at spans (i - 1) last x at (grind (arith, nat_tests)), λ _. grind (arith, nat_tests))
]

-- where no set span has begun, the first second of the span is no one's
pub covers_none : (spans : List Span) (span : Span) (i : ℕ) → IsBegunBy spans span.from.0 i → span.from.0 < span.to.0 → i ≤ 0 → ¬ (HasAll spans span)
covers_none spans span i begun nonempty none all =
    let outside : has spans span.from.0 ≡ false = none_between spans i span.from.0 (λ k d below. absurd (omega arith)) begun.later in
    let inside : span_has span span.from.0 ≡ true = grind (arith, nat_tests) in
    grind (arith, all span.from.0 inside)

-- before the first set span that has not ended, no second of the span is in the set
pub none_before : (spans : List Span) (span : Span) (i x : ℕ) → IsSortedApart spans → IsEndedBy spans span.from.0 i → IsTrue (span_has span x)
    → ((d : Span) → i < length spans → x < (get_or spans i d).from.0) → has spans x ≡ false
none_before spans span i x sorted ended inside before =
    let from : span.from.0 ≤ x = grind (arith, nat_tests) in
    none_between spans i x (λ k d below. omega (arith, ended.ended k d below)) (λ k d le lt. elim (cases_lt i k) [
      | inl later ↦ omega (arith, before d (omega arith), sorted.apart i k d later lt, sorted.nonempty i d (omega arith))
      | inr ge ↦ let same : k ≡ i = omega arith in rw same (before d (omega arith))
    ])

-- the first second of the set in the span is where both have begun
pub first_exactly : (spans : List Span) (span next : Span) (i first : ℕ) → IsSortedApart spans → IsEndedBy spans span.from.0 i → IsAt spans i next
    → first ≡ max next.from.0 span.from.0 → first < span.to.0 → IsFirstIn spans span first
first_exactly spans span next i first sorted ended at is lt = record {
  inside = grind (arith, nat_tests);
  member = has_at spans i next first at
      (grind (arith, nat_tests, nonempty_at spans i next sorted at, ended.later i next (omega arith) at.in_range, ap (λ (s : Span). s.to.0) at.is));
  least = λ y inside member. elim (cases_lt y first) [
    | inl before ↦
        let from : span.from.0 ≤ y = grind (arith, nat_tests) in
        let none : has spans y ≡ false =
        none_before spans span i y sorted ended inside (λ d _. omega (arith, ap (λ (s : Span). s.from.0) (at_is spans i next at d))) in
        absurd (grind (arith, none, member))
    | inr le ↦ le
  ];
}

-- where they begin together past the span's end, there is none
pub first_none : (spans : List Span) (span next : Span) (i first : ℕ) → IsSortedApart spans → IsEndedBy spans span.from.0 i → IsAt spans i next
    → first ≡ max next.from.0 span.from.0 → span.to.0 ≤ first → HasNone spans span
first_none spans span next i first sorted ended at is past x inside =
    let from : span.from.0 ≤ x = grind (arith, nat_tests) in
    let to : x < span.to.0 = grind (arith, nat_tests) in
    none_before spans span i x sorted ended inside (λ d _. omega (arith, ap (λ (s : Span). s.from.0) (at_is spans i next at d)))
