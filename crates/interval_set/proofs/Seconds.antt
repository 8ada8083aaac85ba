-- What lists of spans have, by their first spans and their last.
use Rattle.std.proofs.Common.{◌≡◌, ℕ, zero, suc, ◌+◌, ◌<◌, ◌≤◌, Bool, true, false, List, [], ◌∷◌, length, get_or, set, drop, refl, sym, ap, ◌∙◌, subst}
use Rattle.std.proofs.Common.{inl, inr, length-drop, arith}
use Rattle.std.specs.Prelude.{◌||◌, All}
use Rattle.std.specs.Ordering.{is_le, is_lt, is_ge, nat_cmp}
use Rattle.std.proofs.lemmas.Bool.{cases_lt}
use Rattle.std.proofs.lemmas.Bool.Decides.{nat_tests}
use Rattle.std.proofs.lemmas.List.Elements.{All-head, All-tail}
use Rattle.std.proofs.lemmas.List.{drop_more, get_or-drop, get_or_default}
use Rattle.std.proofs.lemmas.List.Folds.{list_any_none, list_any_at}
use Rattle.plan_base.specs.declared.span.Span.{Span}
use Rattle.interval_set.specs.Spans.{span_has, has, IsSortedApart}
use Rattle.interval_set.specs.Steps.{BeginBy, Rise}

-- what is known of the first span and of those after it
pub record IsSplit (s : Span) (later : List Span) : Type 0 where
  pub nonempty : s.from.0 < s.to.0
  pub apart : All (λ t. s.to.0 < t.from.0) later
  pub sorted : IsSortedApart later

pub split : (s : Span) (later : List Span) → IsSortedApart (s ∷ later) → IsSplit s later
split s later h = record {
  nonempty = All-head (λ t. t.from.0 < t.to.0) s later h.nonempty;
  apart = λ k d lt. h.apart 0 (suc k) d (omega arith) (omega arith);
  sorted = record {
    nonempty = All-tail (λ t. t.from.0 < t.to.0) s later h.nonempty;
    apart = λ i j d lt in_range. h.apart (suc i) (suc j) d (omega arith) (omega arith);
  };
}

-- a second before all spans is none of theirs
pub has_before : (spans : List Span) (x : ℕ) → All (λ t. x < t.from.0) spans → has spans x ≡ false
has_before [] x before = refl
has_before (t ∷ spans) x before =
    grind (arith, nat_tests, All-head (λ t. x < t.from.0) t spans before, has_before spans x (All-tail (λ t. x < t.from.0) t spans before))

-- a span that takes the place of one whose seconds it has adds those that it has
pub has-set : (spans : List Span) (i : ℕ) (new d : Span) (x : ℕ) → i < length spans
    → (span_has new x || span_has (get_or spans i d) x) ≡ span_has new x → has (set spans i new) x ≡ (has spans x || span_has new x)
has-set [] i new d x lt covers = absurd (omega arith)
has-set (s ∷ spans) zero new d x lt covers = grind arith
has-set (s ∷ spans) (suc i) new d x lt covers = grind (arith, has-set spans i new d x (omega arith) covers)

-- the span at place i of the list
pub record IsAt (spans : List Span) (i : ℕ) (s : Span) : Type 0 where
  pub in_range : i < length spans
  pub is : s ≡ get_or spans i s

-- what a read past the end gives
abbrev pub nothing : Span
nothing = record { from = record { 0 = 0 }; to = record { 0 = 0 } }

-- the span that a read gives
pub at_place : (spans : List Span) (i : ℕ) (d : Span) → i < length spans → IsAt spans i (get_or spans i d)
at_place spans i d lt = record { in_range = lt; is = get_or_default spans i d _ lt }

-- it is the one there whatever a read past the end gives
pub at_is : (spans : List Span) (i : ℕ) (s : Span) → IsAt spans i s → (d : Span) → s ≡ get_or spans i d
at_is spans i s at d = at.is ∙ get_or_default spans i s d at.in_range

-- what is left of a list from the place of a span on
pub drop_at : (spans : List Span) (i : ℕ) (s : Span) → IsAt spans i s → drop i spans ≡ s ∷ drop (i + 1) spans
drop_at spans i s at = drop_more spans i s at.in_range ∙ ap (λ t. t ∷ drop (i + 1) spans) (sym at.is)

pub rise : (spans : List Span) → IsSortedApart spans → Rise spans
rise spans sorted i j d le in_range = elim (cases_lt i j) [
  | inl lt ↦ omega (arith, sorted.apart i j d lt in_range, sorted.nonempty i d (omega arith))
  | inr ge ↦ let same : i ≡ j = omega arith in omega (arith, ap (λ k. (get_or spans k d).from.0) same)
]

-- a span of a set has a second
pub nonempty_at : (spans : List Span) (i : ℕ) (s : Span) → IsSortedApart spans → IsAt spans i s → s.from.0 < s.to.0
nonempty_at spans i s sorted at = let HasOne : Span → Type 0 = λ t. t.from.0 < t.to.0 in subst HasOne (sym at.is) (sorted.nonempty i s at.in_range)

-- the spans from one on begin no earlier than it
pub from_on : (spans : List Span) (i : ℕ) (s : Span) → Rise spans → IsAt spans i s → All (λ t. s.from.0 ≤ t.from.0) (drop i spans)
from_on spans i s rise at k d lt =
    let place : i + k < length spans = omega (arith, length-drop i spans) in
    let is : s.from.0 ≡ (get_or spans i d).from.0 = ap (λ (t : Span). t.from.0) (at.is ∙ get_or_default spans i s d at.in_range) in
    let moved : (get_or (drop i spans) k d).from.0 ≡ (get_or spans (i + k) d).from.0 = ap (λ (t : Span). t.from.0) (get_or-drop i spans k d) in
    omega (arith, rise i (i + k) d (omega arith) place, is, moved)

-- the spans after one begin after it has ended
pub after : (spans : List Span) (i : ℕ) (s : Span) → IsSortedApart spans → IsAt spans i s → All (λ t. s.to.0 < t.from.0) (drop (i + 1) spans)
after spans i s sorted at k d lt =
    let place : i + 1 + k < length spans = omega (arith, length-drop (i + 1) spans) in
    let is : s.to.0 ≡ (get_or spans i d).to.0 = ap (λ (t : Span). t.to.0) (at.is ∙ get_or_default spans i s d at.in_range) in
    let moved : (get_or (drop (i + 1) spans) k d).from.0 ≡ (get_or spans (i + 1 + k) d).from.0 = ap (λ (t : Span). t.from.0) (get_or-drop (i + 1) spans k d) in
    omega (arith, sorted.apart i (i + 1 + k) d (omega arith) place, is, moved)

-- what all spans that are left are, the next one is too
pub next_is : (P : Span → Type 0) (spans : List Span) (i : ℕ) (s : Span) → IsAt spans i s → All P (drop i spans) → P s
next_is P spans i s at all = All-head P s (drop (i + 1) spans) (subst (All P) (drop_at spans i s at) all)

pub rest_is : (P : Span → Type 0) (spans : List Span) (i : ℕ) (s : Span) → IsAt spans i s → All P (drop i spans) → All P (drop (i + 1) spans)
rest_is P spans i s at all = All-tail P s (drop (i + 1) spans) (subst (All P) (drop_at spans i s at) all)

-- the spans begin no later at a later second
pub begin_later : (spans : List Span) (x y : ℕ) → x ≤ y → BeginBy spans x → BeginBy spans y
begin_later spans x y le begin k d lt = omega (arith, begin k d lt)

-- no span has a second that lies between the ends of those before a place and the beginnings of those after it
pub none_between : (spans : List Span) (i x : ℕ) → ((k : ℕ) (d : Span) → k < i → (get_or spans k d).to.0 ≤ x)
    → ((k : ℕ) (d : Span) → i ≤ k → k < length spans → x < (get_or spans k d).from.0) → has spans x ≡ false
none_between spans i x before later = list_any_none (λ s. span_has s x) spans (λ k d lt. elim (cases_lt k i) [
  | inl below ↦ grind (arith, nat_tests, before k d below)
  | inr from ↦ grind (arith, nat_tests, later k d from lt)
])

-- what a span has, its list has
pub has_at : (spans : List Span) (i : ℕ) (s : Span) (x : ℕ) → IsAt spans i s → span_has s x ≡ true → has spans x ≡ true
has_at spans i s x at h = list_any_at (λ t. span_has t x) spans i s at.in_range (ap (λ t. span_has t x) (sym at.is) ∙ h)

-- what comparisons say
pub le_if_true : (a b : ℕ) (r : Bool) → r ≡ is_le (nat_cmp a b) → r ≡ true → a ≤ b
le_if_true a b r answer is_true = grind (arith, nat_tests)

pub gt_if_not_le : (a b : ℕ) (r : Bool) → r ≡ is_le (nat_cmp a b) → r ≡ false → b < a
gt_if_not_le a b r answer is_false = grind (arith, nat_tests)

pub ge_if_not_le : (a b : ℕ) (r : Bool) → r ≡ is_le (nat_cmp a b) → r ≡ false → b ≤ a
ge_if_not_le a b r answer is_false = grind (arith, nat_tests)

pub lt_if_true : (a b : ℕ) (r : Bool) → r ≡ is_lt (nat_cmp a b) → r ≡ true → a < b
lt_if_true a b r answer is_true = grind (arith, nat_tests)

pub ge_if_not_lt : (a b : ℕ) (r : Bool) → r ≡ is_lt (nat_cmp a b) → r ≡ false → b ≤ a
ge_if_not_lt a b r answer is_false = grind (arith, nat_tests)

pub lt_if_not_ge : (a b : ℕ) (r : Bool) → r ≡ is_ge (nat_cmp a b) → r ≡ false → a < b
lt_if_not_ge a b r answer is_false = grind (arith, nat_tests)
