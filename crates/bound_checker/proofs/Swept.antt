-- The starts of an offer, slice by slice and stretch by stretch.
use Rattle.std.proofs.Common.{◌≡◌, ℕ, ◌+◌, ◌-◌, ◌<◌, ◌≤◌, ◌⊎◌, inl, inr, true, false, min, List, [], ◌∷◌, ◌++◌, length, slice_set, sym, ◌∙◌, subst, arith}
use Rattle.std.proofs.lemmas.Bool.{false≢true}
use Rattle.plan_base.specs.declared.parts.Parts.{Parts}
use Rattle.bound_checker.specs.declared.table.Start.{Start}
use Rattle.bound_checker.specs.declared.worth.Offer.{Offer}
use Rattle.bound_checker.specs.declared.sight.Sight.{Sight}
use Rattle.bound_checker.specs.declared.stretches.Stretch.{Stretch}
use Rattle.plan_base.specs.Tables.{row}
use Rattle.bound_checker.specs.Stretches.{IsStretch}
use Rattle.bound_checker.specs.Sights.{IsInSight}
use Rattle.bound_checker.specs.Listings.{start_in, IsAdded, CanStart}
use Rattle.bound_checker.proofs.Added.{added_said, added_more, added_one}

below_or_at : (a b : ℕ) → a < b + 1 → (a < b) ⊎ (a ≡ b)
below_or_at a b h = grind arith

below_or_from : (a b : ℕ) → (a < b) ⊎ (b ≤ a)
below_or_from a b = grind arith

pub start_pushed : (o : Offer) (first from k i : ℕ) (a b : List (List Start)) (x : Start) (xs : List Start) → first + i ≡ k → from ≤ k → i < length b
    → x ≡ start_in o first i → xs ≡ row b i ++ x ∷ []
    → IsAdded o first (λ j. (from ≤ j) × (j < k)) a b → IsAdded o first (λ j. (from ≤ j) × (j < k + 1)) a (slice_set b i xs)
start_pushed o first from k i a b x xs at least within is pushed before =
    let all : IsAdded o first (λ j. (from ≤ j) × (j < k + 1)) a (slice_set b i (row b i ++ start_in o first i ∷ [])) =
    added_said o first (λ j. ((from ≤ j) × (j < k)) ⊎ (j ≡ first + i)) (λ j. (from ≤ j) × (j < k + 1)) a
    (slice_set b i (row b i ++ start_in o first i ∷ []))
    (λ j h. elim h [ inl l ↦ (l.0, omega arith) | inr e ↦ (omega arith, omega arith) ])
    (λ j h. elim (below_or_at j k h.1) [ inl l ↦ inl (h.0, l) | inr e ↦ inr (omega arith) ])
    (added_more o first (λ j. (from ≤ j) × (j < k)) (λ j. j ≡ first + i) a b (slice_set b i (row b i ++ start_in o first i ∷ [])) before
    (added_one o first i b within)) in
    subst (λ (ys : List Start). IsAdded o first (λ j. (from ≤ j) × (j < k + 1)) a (slice_set b i ys))
    (sym (subst (λ (y : Start). xs ≡ row b i ++ y ∷ []) is pushed)) all

module _ (s : Parts) (sight : Sight) (o : Offer) (a b : List (List Start)) (slice end stop : ℕ) (x : Stretch)
    (stretch : IsStretch (IsInSight sight o.observation) slice x) (from : s.first.0 ≤ slice) (more : slice < stop)
    (stop_is : stop ≡ s.first.0 + s.slices + 1 - o.size) (end_is : end ≡ min x.end stop) where
  pub goes_on : slice < end
  goes_on = let later : slice < x.end = stretch.later in omega arith

  can : (k : ℕ) → slice ≤ k → k < end → x.fits ≡ true → CanStart s sight o k
  can k l m fits = record { begins = omega arith; ends = omega arith; in_sight = (stretch.alike k l (omega arith)).0 fits }

  pub swept_starts : (c : List (List Start)) → x.fits ≡ true → IsAdded o s.first.0 (λ k. (k < slice) × CanStart s sight o k) a b
      → IsAdded o s.first.0 (λ k. (slice ≤ k) × (k < end)) b c
      → IsAdded o s.first.0 (λ k. (k < end) × CanStart s sight o k) a c
  swept_starts c fits before here =
      added_said o s.first.0 (λ k. ((k < slice) × CanStart s sight o k) ⊎ ((slice ≤ k) × (k < end))) (λ k. (k < end) × CanStart s sight o k) a c
      (λ k h. elim h [ inl l ↦ (omega (arith, goes_on), l.1) | inr l ↦ (l.1, can k l.0 l.1 fits) ])
      (λ k h. elim (below_or_from k slice) [ inl l ↦ inl (l, h.1) | inr l ↦ inr (l, h.0) ])
      (added_more o s.first.0 (λ k. (k < slice) × CanStart s sight o k) (λ k. (slice ≤ k) × (k < end)) a b c before here)

  pub swept_none : x.fits ≡ false → IsAdded o s.first.0 (λ k. (k < slice) × CanStart s sight o k) a b
      → IsAdded o s.first.0 (λ k. (k < end) × CanStart s sight o k) a b
  swept_none off before =
      added_said o s.first.0 (λ k. (k < slice) × CanStart s sight o k) (λ k. (k < end) × CanStart s sight o k) a b
      (λ k h. (omega (arith, goes_on), h.1))
      (λ k h. elim (below_or_from k slice) [ inl l ↦ (l, h.1) | inr l ↦ absurd (false≢true (sym off ∙ (stretch.alike k l (omega arith)).1 h.1.in_sight)) ])
      before

pub swept_all : (s : Parts) (sight : Sight) (o : Offer) (a b : List (List Start)) (slice stop : ℕ) → stop ≤ slice → stop ≡ s.first.0 + s.slices + 1 - o.size
    → IsAdded o s.first.0 (λ k. (k < slice) × CanStart s sight o k) a b → IsAdded o s.first.0 (CanStart s sight o) a b
swept_all s sight o a b slice stop end stop_is before =
    added_said o s.first.0 (λ k. (k < slice) × CanStart s sight o k) (CanStart s sight o) a b (λ k h. h.1)
    (λ k h. (let ends : k + o.size ≤ s.first.0 + s.slices = h.ends in omega arith, h)) before
