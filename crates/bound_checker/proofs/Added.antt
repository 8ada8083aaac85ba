-- Rows to which starts of an offer are added.
use Rattle.std.proofs.Common.{◌≡◌, ◌≢◌, ℕ, ◌+◌, ◌-◌, ◌<◌, ◌≤◌, ◌⊎◌, inl, inr, List, [], ◌∷◌, ◌++◌, length, slice_index_or, slice_set, Contains, refl}
use Rattle.std.proofs.Common.{sym, ◌∙◌, ap, subst, get_or-set_other, get_or-set_same, length-set, arith}
use Rattle.std.proofs.lemmas.List.Elements.{Contains-append_left, Contains-append_right, Contains-append_cases}
use Rattle.plan_base.proofs.Orders.{contains_first, contains_cases}
use Rattle.bound_checker.specs.declared.table.Start.{Start}
use Rattle.bound_checker.specs.declared.worth.Offer.{Offer}
use Rattle.plan_base.specs.Tables.{row}
use Rattle.bound_checker.specs.Listings.{start_in, IsAdded}

pub added_none : (o : Offer) (first : ℕ) (P : ℕ → Type 0) (rows : List (List Start)) → ((k : ℕ) → ¬ (P k)) → IsAdded o first P rows rows
added_none o first P rows none = record {
  count = refl;
  kept = λ i x c. c;
  added = λ i l p. absurd (none (first + i) p);
  nothing_else = λ i x c. inl c;
}

pub added_said : (o : Offer) (first : ℕ) (P Q : ℕ → Type 0) (a b : List (List Start)) → ((k : ℕ) → P k → Q k) → ((k : ℕ) → Q k → P k)
    → IsAdded o first P a b → IsAdded o first Q a b
added_said o first P Q a b there back h = record {
  count = h.count;
  kept = h.kept;
  added = λ i l q. h.added i l (back (first + i) q);
  nothing_else = λ i x c. elim (h.nothing_else i x c) [ inl before ↦ inl before | inr new ↦ inr (there (first + i) new.0, new.1) ];
}

pub added_more : (o : Offer) (first : ℕ) (P Q : ℕ → Type 0) (a b c : List (List Start)) → IsAdded o first P a b → IsAdded o first Q b c
    → IsAdded o first (λ k. P k ⊎ Q k) a c
added_more o first P Q a b c h g = record {
  count = g.count ∙ h.count;
  kept = λ i x has. g.kept i x (h.kept i x has);
  added = λ i l either. elim either [
    | inl p ↦ g.kept i _ (h.added i l p)
    | inr q ↦ let same : length b ≡ length a = h.count in g.added i (omega arith) q
  ];
  nothing_else = λ i x has. elim (g.nothing_else i x has) [
    | inl before ↦ elim (h.nothing_else i x before) [ inl old ↦ inl old | inr new ↦ inr (inl new.0, new.1) ]
    | inr new ↦ inr (inr new.0, new.1)
  ];
}

same_or_not : (a b : ℕ) → (a ≡ b) ⊎ (a ≢ b)
same_or_not a b = grind arith

contains_one : (x y : Start) → Contains (x ∷ []) y → y ≡ x
contains_one x y c = elim (contains_cases x y [] c) [ inl e ↦ sym e | inr none ↦ absurd (omega (arith, none.1)) ]

pub added_one : (o : Offer) (first i : ℕ) (rows : List (List Start)) → i < length rows
    → IsAdded o first (λ k. k ≡ first + i) rows (slice_set rows i (row rows i ++ start_in o first i ∷ []))
added_one o first i rows within = record {
  count = length-set rows i pushed;
  kept = λ j x c. elim (same_or_not j i) [
    | inl same ↦ subst (λ (xs : List Start). Contains xs x) (sym (at j same))
        (Contains-append_left (row rows i) (start_in o first i ∷ []) x (subst (λ (n : ℕ). Contains (row rows n) x) same c))
    | inr differ ↦ subst (λ (xs : List Start). Contains xs x) (sym (other j differ)) c
  ];
  added = λ j l e.
      let same : j ≡ i = omega arith in
      subst (λ (xs : List Start). Contains xs (start_in o first j)) (sym (at j same))
      (subst (λ (n : ℕ). Contains pushed (start_in o first n)) (sym same)
      (Contains-append_right (row rows i) (start_in o first i ∷ []) (start_in o first i) (contains_first (start_in o first i) [])));
  nothing_else = λ j x c. elim (same_or_not j i) [
    | inl same ↦ elim (Contains-append_cases (row rows i) (start_in o first i ∷ []) x (subst (λ (xs : List Start). Contains xs x) (at j same) c)) [
      | inl before ↦ inl (subst (λ (n : ℕ). Contains (row rows n) x) (sym same) before)
      | inr new ↦ inr (omega arith, contains_one (start_in o first i) x new ∙ ap (start_in o first) (sym same))
    ]
    | inr differ ↦ inl (subst (λ (xs : List Start). Contains xs x) (other j differ) c)
  ];
}
  where
    pushed : List Start
    pushed = row rows i ++ start_in o first i ∷ []

    at : (j : ℕ) → j ≡ i → row (slice_set rows i pushed) j ≡ pushed
    at j same = ap (row (slice_set rows i pushed)) same ∙ get_or-set_same rows i pushed [] within

    other : (j : ℕ) → j ≢ i → row (slice_set rows i pushed) j ≡ row rows j
    other j differ = get_or-set_other rows i j pushed [] differ
