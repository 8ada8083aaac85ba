-- Rows to whose ends starts of an offer are added.
use Rattle.std.proofs.Common.{◌≡◌, ◌≢◌, ℕ, ◌+◌, ◌<◌, ◌≤◌, ◌⊎◌, inl, inr, List, [], ◌∷◌, ◌++◌, length, slice_set, refl, sym, ◌∙◌, ap, get_or-set_other}
use Rattle.std.proofs.Common.{get_or-set_same, length-set, arith}
use Rattle.interval_solver.specs.declared.start.Start.{Start}
use Rattle.interval_solver.specs.declared.offer.Offer.{Offer}
use Rattle.plan_base.specs.Tables.{row}
use Rattle.interval_solver.specs.Listings.{start_in, AreAdded}

same_or_not : (a b : ℕ) → (a ≡ b) ⊎ (a ≢ b)
same_or_not a b = grind arith

pub none_added : (o : Offer) (first from to : ℕ) (rows : List (List Start)) → to ≤ from → AreAdded o first from to rows rows
none_added o first from to rows none = record { count = refl; added = λ i l a b. absurd (omega arith); kept = λ i e. refl }

pub one_added : (o : Offer) (first from k i : ℕ) (old rows : List (List Start)) (x : Start) (xs : List Start) → first + i ≡ k → from ≤ k
    → i < length rows → x ≡ start_in o first i → xs ≡ row rows i ++ x ∷ []
    → AreAdded o first from k old rows → AreAdded o first from (k + 1) old (slice_set rows i xs)
one_added o first from k i old rows x xs at least within is pushed h = record {
  count = length-set rows i xs ∙ h.count;
  added = λ j l a b. elim (same_or_not j i) [
    | inl same ↦
        ap (row (slice_set rows i xs)) same ∙ get_or-set_same rows i xs [] within ∙ pushed
        ∙ ap (λ (ys : List Start). ys ++ x ∷ []) (h.kept i (inr (omega arith)) ∙ ap (row old) (sym same))
        ∙ ap (λ (y : Start). row old j ++ y ∷ []) (is ∙ ap (start_in o first) (sym same))
    | inr differ ↦ get_or-set_other rows i j xs [] differ ∙ h.added j l a (apart j differ b)
  ];
  kept = λ j e. elim e [
    | inl below ↦ get_or-set_other rows i j xs [] (λ same. omega arith) ∙ h.kept j (inl below)
    | inr above ↦ get_or-set_other rows i j xs [] (λ same. omega arith) ∙ h.kept j (inr (omega arith))
  ];
}
  where
    apart : (j : ℕ) → j ≢ i → first + j < k + 1 → first + j < k
    apart j differ b = grind (arith, at, differ, b)
