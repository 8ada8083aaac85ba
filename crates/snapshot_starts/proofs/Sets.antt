-- Sets of slices by what is known of each slice.
use Rattle.std.proofs.Common.{◌≡◌, ℕ, ◌+◌, ◌-◌, ◌*◌, ◌/◌, ◌%◌, ◌<◌, ◌≤◌, ◌⊎◌, inl, inr, min, Bool, true, false, List, [], ◌∷◌, ◌++◌, length}
use Rattle.std.proofs.Common.{slice_index_or, take, refl, sym, ◌∙◌, ap, subst, arith}
use Rattle.std.specs.Prelude.{◌&&◌, ◌||◌, nat_le, nat_lt, IsTrue, ◌↔◌, Any, Contains}
use Rattle.std.proofs.Math.Nat.{le-div_iff_mul-le, mul-le-mul_right}
use Rattle.std.proofs.lemmas.Grind.{div_ceil_times}
use Rattle.std.proofs.lemmas.Bool.{cases_lt, and_parts, false≢true}
use Rattle.std.proofs.lemmas.Bool.Decides.{nat_tests}
use Rattle.std.proofs.lemmas.List.{take_more}
use Rattle.std.proofs.lemmas.List.Elements.{Contains-append_left, Contains-push, Contains-push_cases}
use Rattle.std.proofs.lemmas.List.Folds.{list_any-append}
use Rattle.plan_base.specs.declared.span.Span.{Span}
use Rattle.plan_base.specs.BySpans.{OneHasAll}
use Rattle.interval_set.specs.Spans.{span_has, has, IsSetOf, IsMeet, IsSortedApart}
use Rattle.snapshot_starts.specs.Slices.{AreSlices, AreSlicesIn, LiesIn}

-- rounding
pub ceil_iff : (a b k : ℕ) → 0 < b → (a / b + min 1 (a % b) ≤ k) ↔ (a ≤ k * b)
ceil_iff a b k pos =
    let around = div_ceil_times a b pos in
    let q : ℕ = a / b + min 1 (a % b) in (
      λ le. let more : q * b ≤ k * b = mul-le-mul_right b le in omega (arith, around.0, more),
      λ le. elim (cases_lt k q) [
        | inl below ↦
            let more : (k + 1) * b ≤ q * b = mul-le-mul_right b (omega arith) in
            let split : (k + 1) * b ≡ k * b + b = grind arith in
            absurd (omega (arith, around.1, more, split))
        | inr above ↦ above
      ],
    )

pub floor_iff : (m b k : ℕ) → 0 < b → (k < m / b + 1) ↔ (k * b ≤ m)
floor_iff m b k pos = let both = le-div_iff_mul-le {k = b} {x = k} {y = m} pos in
    (λ lt. both.0 (omega arith), λ le. let q : k ≤ m / b = both.1 le in omega arith)

-- an element of one of the spans, and one of the list
pub any_left : {X : Type 0} (P : X → Type 0) (xs : List X) (x : X) → Any P xs → Any P (xs ++ x ∷ [])
any_left P xs x (k, y, l, e, p) = let c : Contains (xs ++ x ∷ []) y = Contains-append_left xs (x ∷ []) y (k, l, e) in (c.0, y, c.1, c.2, p)

pub any_last : {X : Type 0} (P : X → Type 0) (xs : List X) (x : X) → P x → Any P (xs ++ x ∷ [])
any_last P xs x p = let c : Contains (xs ++ x ∷ []) x = Contains-push xs x in (c.0, x, c.1, c.2, p)

pub any_cases : {X : Type 0} (P : X → Type 0) (xs : List X) (x : X) → Any P (xs ++ x ∷ []) → Any P xs ⊎ P x
any_cases P xs x (k, y, l, e, p) = elim (Contains-push_cases xs x y (k, l, e)) [
  | inl c ↦ inl (c.0, y, c.1, c.2, p)
  | inr same ↦ inr (subst P (sym same) p)
]

-- the slices of the spans so far
pub record AreSlicesOf (len d : ℕ) (spans slices : List Span) : Type 0 where
  pub each : (k : ℕ) → IsTrue (has slices k) ↔ OneHasAll spans (k * len) (k * len + d)

pub no_slices_yet : (len d : ℕ) → AreSlicesOf len d [] []
no_slices_yet len d = record { each = λ k. (λ yes. absurd (false≢true yes), λ has. absurd (omega (arith, has.2))) }

pub or_true_left : (a b : Bool) → a ≡ true → (a || b) ≡ true
or_true_left a b h = grind arith

pub or_true_right : (a b : Bool) → b ≡ true → (a || b) ≡ true
or_true_right a b h = grind arith

pub or_true_cases : (a b : Bool) → (a || b) ≡ true → (a ≡ true) ⊎ (b ≡ true)
or_true_cases true b h = inl refl
or_true_cases false b h = inr h

pub has_push : (slices : List Span) (w : Span) (k : ℕ) → has (slices ++ w ∷ []) k ≡ (has slices k || span_has w k)
has_push slices w k = list_any-append (λ s. span_has s k) slices (w ∷ []) ∙ grind arith

pub more_slices : (len d : ℕ) (spans slices : List Span) (w ws : Span) → AreSlicesOf len d spans slices → AreSlicesIn len d w ws
    → AreSlicesOf len d (spans ++ w ∷ []) (slices ++ ws ∷ [])
more_slices len d spans slices w ws so_far one = record {
  each = λ k. (
    λ yes. elim (or_true_cases (has slices k) (span_has ws k) (sym (has_push slices ws k) ∙ yes)) [
      | inl earlier ↦ any_left (λ v. LiesIn len d v k) spans w ((so_far.each k).0 earlier)
      | inr here ↦ any_last (λ v. LiesIn len d v k) spans w ((one.each k).0 here)
    ],
    λ has_all. has_push slices ws k ∙ elim (any_cases (λ v. LiesIn len d v k) spans w has_all) [
      | inl earlier ↦ or_true_left (has slices k) (span_has ws k) ((so_far.each k).1 earlier)
      | inr here ↦ or_true_right (has slices k) (span_has ws k) ((one.each k).1 here)
    ],
  );
}

pub slices_at : (len d : ℕ) (spans slices : List Span) (i : ℕ) (w ws : Span) → i < length spans → AreSlicesOf len d (take i spans) slices
    → slice_index_or spans i w ≡ w → AreSlicesIn len d w ws
    → AreSlicesOf len d (take (i + 1) spans) (slices ++ ws ∷ [])
slices_at len d spans slices i w ws l so_far at one =
    subst (λ (xs : List Span). AreSlicesOf len d xs (slices ++ ws ∷ [])) (sym (take_more spans i w l ∙ ap (λ (v : Span). take i spans ++ v ∷ []) at))
    (more_slices len d (take i spans) slices w ws so_far one)

-- sets by what is known of each slice
pub set_slices : (P : ℕ → Type 0) (spans set : List Span) → ((k : ℕ) → IsTrue (has spans k) ↔ P k) → IsSetOf (has spans) set → AreSlices P set
set_slices P spans set each is = record {
  each = λ k. (λ yes. (each k).0 (sym (is.seconds k) ∙ yes), λ p. is.seconds k ∙ (each k).1 p);
  sorted = is.sorted;
}

pub and_true : (a b : Bool) → a ≡ true → b ≡ true → (a && b) ≡ true
and_true a b h g = grind arith

pub meet_slices : (P Q : ℕ → Type 0) (a b meet : List Span) → ((k : ℕ) → IsTrue (has a k) ↔ P k) → ((k : ℕ) → IsTrue (has b k) ↔ Q k)
    → IsMeet a b meet → AreSlices (λ k. P k × Q k) meet
meet_slices P Q a b meet each_a each_b is = record {
  each = λ k. (
    λ yes. let both = and_parts (has a k) (has b k) (sym (is.seconds k) ∙ yes) in ((each_a k).0 both.0, (each_b k).0 both.1),
    λ (p, q). is.seconds k ∙ and_true (has a k) (has b k) ((each_a k).1 p) ((each_b k).1 q),
  );
  sorted = is.sorted;
}

pub same_slices : (P Q : ℕ → Type 0) (set : List Span) → AreSlices P set → ((k : ℕ) → P k → Q k) → ((k : ℕ) → Q k → P k) → AreSlices Q set
same_slices P Q set are there back = record {
  each = λ k. (λ yes. there k ((are.each k).0 yes), λ q. (are.each k).1 (back k q));
  sorted = are.sorted;
}

nothing_apart : IsSortedApart []
nothing_apart = record { nonempty = λ i d l. absurd (omega arith); apart = λ i j d l m. absurd (omega arith) }

pub no_slices : (P : ℕ → Type 0) → ((k : ℕ) → ¬ (P k)) → AreSlices P []
no_slices P none = record {
  each = λ k. (λ yes. absurd (false≢true yes), λ p. absurd (none k p));
  sorted = nothing_apart;
}

-- the horizon
pub horizon_iff : (first slices size k : ℕ) → IsTrue (nat_le first k && nat_lt k (first + slices + 1 - size)) ↔ (first ≤ k) × (k + size ≤ first + slices)
horizon_iff first slices size k = (λ yes. (grind (arith, nat_tests), grind (arith, nat_tests)), λ (h, g). grind (arith, nat_tests))
