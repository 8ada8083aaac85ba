-- Which stretches many spans have, from those of each.
use Rattle.std.proofs.Common.{◌≡◌, ℕ, ◌+◌, ◌*◌, ◌<◌, ◌≤◌, ◌↔◌, ◌⊎◌, inl, inr, Bool, true, false, min, IsTrue, List, length, slice_index_or, refl, sym}
use Rattle.std.proofs.Common.{◌∙◌, ap, subst, below_more, arith}
use Rattle.std.specs.Prelude.{Any}
use Rattle.std.specs.List.Sorted.{IsPartitionPoint, IsNonDecreasingBy}
use Rattle.std.proofs.lemmas.Bool.{false≢true}
use Rattle.std.proofs.lemmas.List.{get_or_default}
use Rattle.std.proofs.Math.Nat.{mul-le-mul_right}
use Rattle.plan_base.specs.declared.span.Span.{Span}
use Rattle.plan_base.specs.Snapshot.{IsSortedApart}
use Rattle.plan_base.specs.BySpans.{OneHasAll}
use Rattle.bound_checker.specs.declared.stretches.Observation.{Observation}
use Rattle.bound_checker.specs.declared.stretches.Stretch.{Stretch}
use Rattle.bound_checker.specs.Stretches.{DoesFitIn, DoesFit, IsStretch}

-- before the slice `end` an observation fits into none of the first i spans
pub record IsNoneUntil (spans : List Span) (o : Observation) (k i end : ℕ) : Type 0 where
  pub later : k < end
  pub none : (n j : ℕ) (d : Span) → n < i → k ≤ j → j < end → ¬ (DoesFitIn (slice_index_or spans n d) o j)

-- spans that are apart don't end earlier one after the other
pub ends_rise : (spans : List Span) → IsSortedApart spans → IsNonDecreasingBy (λ w. w.to.0) spans
ends_rise spans apart i j d order within = elim (below_or_same i j order) [
  | inl below ↦
      let gap : (slice_index_or spans i d).to.0 < (slice_index_or spans j d).from.0 = apart.apart i j d below within in
      let some : (slice_index_or spans j d).from.0 < (slice_index_or spans j d).to.0 = apart.nonempty j d within in
      omega arith
  | inr same ↦ let e : (slice_index_or spans i d).to.0 ≡ (slice_index_or spans j d).to.0 = ap (λ (n : ℕ). (slice_index_or spans n d).to.0) same in omega arith
]
  where
    below_or_same : (a b : ℕ) → a ≤ b → (a < b) ⊎ (a ≡ b)
    below_or_same a b h = grind arith

below_same_above : (a b : ℕ) → ((a < b) ⊎ (b < a)) ⊎ (a ≡ b)
below_same_above a b = grind arith

-- the first span that doesn't end before second b is the one that can have all seconds from a to the one before b
pub first_has_all : (spans : List Span) (a b i : ℕ) (w : Span) → IsSortedApart spans → IsPartitionPoint (λ v. v.to.0 < b) (λ v. b ≤ v.to.0) spans i
    → i < length spans → w ≡ slice_index_or spans i w → OneHasAll spans a b → w.from.0 ≤ a
first_has_all spans a b i w apart point within at (n, v, below, is, has) = elim (below_same_above n i) [
  | inl (inl less) ↦
      let short : v.to.0 < b = subst (λ (u : Span). u.to.0 < b) is (point.0 n v (omega arith) less) in
      let long : b ≤ v.to.0 = has.1 in
      absurd (omega arith)
  | inl (inr more) ↦
      let gap : (slice_index_or spans i v).to.0 < (slice_index_or spans n v).from.0 = apart.apart i n v more below in
      let left : slice_index_or spans i v ≡ w = get_or_default spans i v w within ∙ sym at in
      let some : w.from.0 < w.to.0 = subst (λ (u : Span). u.from.0 < u.to.0) (sym at) (apart.nonempty i w within) in
      let ends : (slice_index_or spans i v).to.0 ≡ w.to.0 = ap (λ (u : Span). u.to.0) left in
      let begins : (slice_index_or spans n v).from.0 ≡ v.from.0 = ap (λ (u : Span). u.from.0) is in
      let from : v.from.0 ≤ a = has.0 in
      omega arith
  | inr same ↦
      let here : v ≡ w = sym is ∙ ap (λ (m : ℕ). slice_index_or spans m v) same ∙ get_or_default spans i v w within ∙ sym at in
      subst (λ (u : Span). u.from.0 ≤ a) here has.0
]

-- and where all end before b, none has
pub none_has_all : (spans : List Span) (a b i : ℕ) → IsPartitionPoint (λ v. v.to.0 < b) (λ v. b ≤ v.to.0) spans i → length spans ≤ i → ¬ (OneHasAll spans a b)
none_has_all spans a b i point over (n, v, below, is, has) =
    let short : v.to.0 < b = subst (λ (u : Span). u.to.0 < b) is (point.0 n v (omega arith) (omega arith)) in
    let long : b ≤ v.to.0 = has.1 in
    absurd (omega arith)

later_end : (a b len d : ℕ) → a ≤ b → a * len + d ≤ b * len + d
later_end a b len d h = omega (arith, mul-le-mul_right len h)

-- the first span that doesn't end too early decides for all
pub first_decides : (spans : List Span) (o : Observation) (k i : ℕ) (x : Stretch) (w : Span) → IsSortedApart spans
    → IsPartitionPoint (λ v. v.to.0 < k * o.len + o.seconds) (λ v. k * o.len + o.seconds ≤ v.to.0) spans i
    → i < length spans → w ≡ slice_index_or spans i w → IsStretch (DoesFitIn w o) k x
    → (x.fits ≡ false → k * o.len + o.seconds ≤ w.to.0 → (j : ℕ) → j < x.end → j * o.len < w.from.0)
    → IsStretch (DoesFit spans o) k x
first_decides spans o k i x w apart point within at stretch early = record {
  later = stretch.later;
  alike = λ j from to. (λ e. (i, w, within, sym at, (stretch.alike j from to).0 e), λ has. decided j from to has (x.fits) refl);
}
  where
    long : k * o.len + o.seconds ≤ w.to.0
    long = subst (λ (v : Span). k * o.len + o.seconds ≤ v.to.0) (sym at) (point.1 i w (omega arith) within)

    some : w.from.0 < w.to.0
    some = subst (λ (v : Span). v.from.0 < v.to.0) (sym at) (apart.nonempty i w within)

    decided : (j : ℕ) → k ≤ j → j < x.end → DoesFit spans o j → (b : Bool) → x.fits ≡ b → IsTrue x.fits
    decided j from to has true e = e
    decided j from to (n, v, below, is, fits) false e = elim (below_same_above n i) [
      | inl (inl less) ↦
          let short : v.to.0 < k * o.len + o.seconds = subst (λ (u : Span). u.to.0 < k * o.len + o.seconds) is (point.0 n v (omega arith) less) in
          let later : k * o.len + o.seconds ≤ j * o.len + o.seconds = later_end k j o.len o.seconds from in
          let ends : j * o.len + o.seconds ≤ v.to.0 = fits.1 in
          absurd (omega arith)
      | inl (inr more) ↦
          let gap : (slice_index_or spans i v).to.0 < (slice_index_or spans n v).from.0 = apart.apart i n v more below in
          let left : (slice_index_or spans i v).to.0 ≡ w.to.0 = ap (λ (u : Span). u.to.0) (get_or_default spans i v w within ∙ sym at) in
          let right : (slice_index_or spans n v).from.0 ≡ v.from.0 = ap (λ (u : Span). u.from.0) is in
          let before : j * o.len < w.from.0 = early e long j to in
          let after : v.from.0 ≤ j * o.len = fits.0 in
          absurd (omega (arith, some))
      | inr same ↦
          let here : v ≡ w = sym is ∙ ap (λ (m : ℕ). slice_index_or spans m v) same ∙ get_or_default spans i v w within ∙ sym at in
          (stretch.alike j from to).1 (subst (λ (u : Span). DoesFitIn u o j) here fits)
    ]
