-- Lists of starts in pieces: what begins at a slice, before it and after it, and lists that are put together.
use Rattle.std.proofs.Common.{◌≡◌, ◌≢◌, ℕ, ◌<◌, ◌≤◌, ◌⊎◌, inl, inr, true, not, ◌==◌, List, [], ◌∷◌, ◌++◌, slice_index_or, All, AllPairs, Contains, sym}
use Rattle.std.proofs.Common.{◌∙◌, ap, subst, arith}
use Rattle.std.proofs.lemmas.List.Elements.{All-head, All-tail, All-append}
use Rattle.std.proofs.lemmas.List.Kept.{AllPairs-cons}
use Rattle.std.proofs.lemmas.Bool.Decides.{nat_tests}
use Rattle.plan_base.specs.declared.parts.Parts.{Parts}
use Rattle.plan_base.specs.declared.claim.Placement.{Placement}
use Rattle.plan_base.specs.Snapshot.{IsOrderly}
use Rattle.plan_base.specs.Starts.{ShareSlice, size_of}
use Rattle.plan_base.specs.Tables.{IsStartOn, slice_after}
use Rattle.plan_base.proofs.Orders.{pairs_head, pairs_tail}
use Rattle.plan_base.proofs.Sizes.{start_size_above}
use Rattle.plan_base.proofs.Tables.{share_symmetric}
use Rattle.std.proofs.lemmas.List.{get_or_default}

pub same_from_test : (a b : ℕ) → (a == b) ≡ true → a ≡ b
same_from_test a b h = grind (arith, nat_tests)

pub test_from_same : (a b : ℕ) → a ≡ b → (a == b) ≡ true
test_from_same a b h = grind (arith, nat_tests)

pub differ_from_test : (a b : ℕ) → not (a == b) ≡ true → a ≢ b
differ_from_test a b h = grind (arith, nat_tests)

pub test_from_differ : (a b : ℕ) → a ≢ b → not (a == b) ≡ true
test_from_differ a b h = grind (arith, nat_tests)

pub pairs_append : {X : Type 0} (R : X → X → Type 0) (xs ys : List X) → AllPairs R xs → AllPairs R ys → All (λ x. All (R x) ys) xs → AllPairs R (xs ++ ys)
pairs_append R [] ys a b h = b
pairs_append R (x ∷ xs) ys a b h =
    AllPairs-cons R x (xs ++ ys)
    (All-append (R x) xs ys (pairs_head R x xs a) (All-head (λ z. All (R z) ys) x xs h))
    (pairs_append R xs ys (pairs_tail R x xs a) b (All-tail (λ z. All (R z) ys) x xs h))

-- two starts of a list no two of which share a slice are one, or share none
pub one_or_apart : (s : Parts) (starts : List Placement) (p q : Placement) → AllPairs (λ a b. ¬ (ShareSlice s a b)) starts → Contains starts p
    → Contains starts q → (p ≡ q) ⊎ ¬ (ShareSlice s p q)
one_or_apart s starts p q disjoint (i, l, e) (j, m, d) = elim (below_same_above i j) [
  | inl (inl below) ↦ inr (λ share. disjoint i j p below m
      (subst (λ (x : Placement). ShareSlice s x (slice_index_or starts j p)) (sym e)
      (subst (ShareSlice s p) (sym (get_or_default starts j p q m ∙ d)) share)))
  | inl (inr above) ↦ inr (λ share. disjoint j i p above l
      (subst (λ (x : Placement). ShareSlice s x (slice_index_or starts i p)) (sym (get_or_default starts j p q m ∙ d))
      (subst (ShareSlice s q) (sym e) (share_symmetric s p q share))))
  | inr at ↦ inl (sym e ∙ ap (λ (k : ℕ). slice_index_or starts k p) at ∙ get_or_default starts j p q m ∙ d)
]
  where
    below_same_above : (a b : ℕ) → ((a < b) ⊎ (b < a)) ⊎ (a ≡ b)
    below_same_above a b = grind arith

module _ (s : Parts) (t : ℕ) (orderly : IsOrderly s) where
  same_telescopes : (p q : Placement) → IsStartOn s t p → IsStartOn s t q → p.telescope ≡ q.telescope
  same_telescopes p q hp hq = let same : p.telescope.0 ≡ q.telescope.0 = hp.same_telescope ∙ sym hq.same_telescope in λ i. record { 0 = same i }

  -- where one begins no later than the other and they share no slice, it ends before the other begins
  pub ends_before : (p q : Placement) → IsStartOn s t p → IsStartOn s t q → p.slice.0 ≤ q.slice.0 → ¬ (ShareSlice s p q) → slice_after s p ≤ q.slice.0
  ends_before p q hp hq later apart = elim (below_or_not q.slice.0 (slice_after s p)) [
    | inl below ↦ let some : 0 < size_of s q.request.0 = start_size_above s orderly q hq.possible in
        absurd (apart (same_telescopes p q hp hq, q.slice.0, (later, below), (omega arith, omega arith)))
    | inr not_below ↦ not_below
  ]
    where
      below_or_not : (a b : ℕ) → (a < b) ⊎ (b ≤ a)
      below_or_not a b = grind arith

  -- where one ends no later than the other and they share no slice, it ends before the other begins
  pub ends_first : (p q : Placement) → IsStartOn s t p → IsStartOn s t q → slice_after s p ≤ slice_after s q → ¬ (ShareSlice s p q)
      → slice_after s p ≤ q.slice.0
  ends_first p q hp hq later apart = elim (not_above_or_above p.slice.0 q.slice.0) [
    | inl no_later ↦ ends_before p q hp hq no_later apart
    | inr above ↦ let some : 0 < size_of s p.request.0 = start_size_above s orderly p hp.possible in
        absurd (apart (same_telescopes p q hp hq, p.slice.0, (omega arith, omega arith), (omega arith, omega arith)))
  ]
    where
      not_above_or_above : (a b : ℕ) → (a ≤ b) ⊎ (b < a)
      not_above_or_above a b = grind arith

  -- a start that ends by where the other begins shares no slice with it
  pub apart_by : (p q : Placement) → slice_after s p ≤ q.slice.0 → ¬ (ShareSlice s p q)
  apart_by p q h (e, k, (a, b), (c, d)) = absurd (omega arith)

  -- starts of one telescope that all have slice k share it
  pub no_two_at : (k : ℕ) (p q : Placement) → IsStartOn s t p → IsStartOn s t q → (p.slice.0 ≤ k) × (k < slice_after s p)
      → (q.slice.0 ≤ k) × (k < slice_after s q) → ShareSlice s p q
  no_two_at k p q hp hq at_p at_q = (same_telescopes p q hp hq, k, at_p, at_q)
