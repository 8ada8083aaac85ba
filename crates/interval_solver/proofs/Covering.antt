-- Lists of whole and of single starts, as they grow.
use Rattle.std.proofs.Common.{◌≡◌, ℕ, ◌+◌, ◌*◌, ◌/◌, ◌%◌, ◌<◌, ◌≤◌, ◌⊎◌, inl, inr, List, [], ◌∷◌, ◌++◌, length, slice_index_or, take, All, Contains}
use Rattle.std.proofs.Common.{refl, sym, ◌∙◌, ap, subst, arith}
use Rattle.std.proofs.lemmas.List.{get_or_default, get_or_past, get_or_append_left, get_or_push, length_push}
use Rattle.std.proofs.lemmas.List.Elements.{All-contains, Contains-append_left, Contains-push, Contains-push_cases}
use Rattle.interval_solver.specs.declared.start.Start.{Start}
use Rattle.plan_base.specs.Tables.{row}
use Rattle.interval_solver.specs.Blocks.{later, IsWholeAt, IsWholeIn, AreWholes, AreSinglesOf, AreSingles, IsCover}
use Rattle.interval_solver.proofs.Most.{first_more, first_cases, first_here}

-- ---- one row more

row_before : (rows : List (List Start)) (xs : List Start) (k : ℕ) → k < length rows → row (rows ++ xs ∷ []) k ≡ row rows k
row_before rows xs k l = get_or_append_left rows (xs ∷ []) [] k l

row_at : (rows : List (List Start)) (xs : List Start) (k : ℕ) → length rows ≡ k → row (rows ++ xs ∷ []) k ≡ xs
row_at rows xs k e = get_or_push rows xs [] k e

row_past : (rows : List (List Start)) (xs : List Start) (k : ℕ) → length rows < k → row (rows ++ xs ∷ []) k ≡ []
row_past rows xs k l = get_or_past (rows ++ xs ∷ []) k [] (omega (arith, length_push rows xs))

none_in : (x : Start) (xs : List Start) → xs ≡ [] → Contains xs x → ⊥
none_in x xs e c = let l : c.0 < length xs = c.1 in let none : length xs ≡ 0 = ap length e in omega arith

before_at_past : (k n : ℕ) → ((k < n) ⊎ (n ≡ k)) ⊎ (n < k)
before_at_past k n = grind arith

-- ---- whole starts

pub wholes_none : (rows : List (List Start)) → AreWholes rows [] 0
wholes_none rows = record { count = refl; each = λ b w c. absurd (none_in w (row [] b) refl c) }

pub wholes_more : (rows wholes : List (List Start)) (n : ℕ) (found : List Start) → All (IsWholeIn rows n) found → AreWholes rows wholes n
    → AreWholes rows (wholes ++ found ∷ []) (n + 1)
wholes_more rows wholes n found all old = record {
  count = length_push wholes found ∙ ap (λ (k : ℕ). k + 1) old.count;
  each = λ b w c. elim (before_at_past b n) [
    | inl (inl before) ↦ old.each b w (subst (λ (xs : List Start). Contains xs w) (row_before wholes found b (omega (arith, old.count))) c)
    | inl (inr at) ↦ subst (λ (k : ℕ). IsWholeIn rows k w) at
        (All-contains (IsWholeIn rows n) found w all (subst (λ (xs : List Start). Contains xs w) (row_at wholes found b (old.count ∙ at)) c))
    | inr past ↦ absurd (none_in w (row (wholes ++ found ∷ []) b) (row_past wholes found b (omega (arith, old.count))) c)
  ];
}

-- ---- the single starts of a row

pub singles_of_none : (xs wholes : List Start) (j : ℕ) → AreSinglesOf (take 0 xs) wholes j []
singles_of_none xs wholes j = record { within = λ x c. c; complete = λ x c. inl c }

module _ (xs wholes : List Start) (i j : ℕ) (d : Start) (l : i < length xs) (found : List Start) (old : AreSinglesOf (take i xs) wholes j found) where
  at : slice_index_or xs i d ≡ slice_index_or xs i (slice_index_or xs i d)
  at = get_or_default xs i d (slice_index_or xs i d) l

  pub singles_of_more : AreSinglesOf (take (i + 1) xs) wholes j (found ++ slice_index_or xs i d ∷ [])
  singles_of_more = record {
    within = λ x c. elim (Contains-push_cases found (slice_index_or xs i d) x c) [
      | inl before ↦ first_more xs i x l (old.within x before)
      | inr same ↦ subst (λ (y : Start). Contains (take (i + 1) xs) y) same (first_here xs i (slice_index_or xs i d) l at)
    ];
    complete = λ x c. elim (first_cases xs i (slice_index_or xs i d) x l at c) [
      | inl before ↦ elim (old.complete x before) [ inl one ↦ inl (Contains-append_left found (slice_index_or xs i d ∷ []) x one) | inr whole ↦ inr whole ]
      | inr same ↦ inl (subst (λ (y : Start). Contains (found ++ slice_index_or xs i d ∷ []) y) (sym same) (Contains-push found (slice_index_or xs i d)))
    ];
  }

  pub singles_of_passed : IsWholeAt wholes j (slice_index_or xs i d) → AreSinglesOf (take (i + 1) xs) wholes j found
  singles_of_passed whole = record {
    within = λ x c. first_more xs i x l (old.within x c);
    complete = λ x c. elim (first_cases xs i (slice_index_or xs i d) x l at c) [
      | inl before ↦ old.complete x before
      | inr same ↦ inr (subst (IsWholeAt wholes j) (sym same) whole)
    ];
  }

-- ---- the single starts of all slices

pub singles_none : (rows wholes : List (List Start)) → AreSingles rows wholes [] 0
singles_none rows wholes = record { count = refl; each = λ b j less l. absurd (omega arith) }

pub singles_more : (rows wholes singles : List (List Start)) (n : ℕ) (found : List Start)
    → AreSinglesOf (row rows n) (row wholes (n / 4)) (n % 4) found → AreSingles rows wholes singles n
    → AreSingles rows wholes (singles ++ found ∷ []) (n + 1)
singles_more rows wholes singles n found here old = record {
  count = length_push singles found ∙ ap (λ (k : ℕ). k + 1) old.count;
  each = λ b j less l. elim (before_at_past (4 * b + j) n) [
    | inl (inl before) ↦ subst (AreSinglesOf (row rows (4 * b + j)) (row wholes b) j)
        (sym (row_before singles found (4 * b + j) (omega (arith, old.count)))) (old.each b j less before)
    | inl (inr at) ↦
        let block : n / 4 ≡ b = omega arith in
        let slice : n % 4 ≡ j = omega arith in
        subst (AreSinglesOf (row rows (4 * b + j)) (row wholes b) j) (sym (row_at singles found (4 * b + j) (old.count ∙ at)))
        (subst (λ (m : ℕ). AreSinglesOf (row rows (4 * b + j)) (row wholes b) m found) slice
        (subst (λ (m : ℕ). AreSinglesOf (row rows (4 * b + j)) (row wholes m) (n % 4) found) block
        (subst (λ (m : ℕ). AreSinglesOf (row rows m) (row wholes (n / 4)) (n % 4) found) at here)))
    | inr past ↦ absurd (omega arith)
  ];
}

-- ---- all rows are covered

pub covered : (rows wholes singles : List (List Start)) → AreWholes rows wholes (length rows / 4) → AreSingles rows wholes singles (length rows)
    → IsCover rows wholes singles
covered rows wholes singles w s = record {
  count = s.count;
  blocks = omega (arith, w.count);
  single = λ k x c. elim (before_at_past k (length rows)) [
    | inl (inl before) ↦
        let at : k ≡ 4 * (k / 4) + k % 4 = omega arith in
        subst (λ (i : ℕ). Contains (row rows i) x) (sym at)
        ((s.each (k / 4) (k % 4) (omega arith) (omega arith)).within x (subst (λ (i : ℕ). Contains (row singles i) x) at c))
    | inl (inr end) ↦ absurd (none_in x (row singles k) (get_or_past singles k [] (omega (arith, s.count))) c)
    | inr past ↦ absurd (none_in x (row singles k) (get_or_past singles k [] (omega (arith, s.count))) c)
  ];
  whole = λ b j x less (v, c, e). subst (λ (y : Start). Contains (row rows (4 * b + j)) y) (sym e) ((w.each b v c).all j less);
  apart = λ b v c. (w.each b v c).apart;
  complete = λ b j x less c. elim (before_at_past (4 * b + j) (length rows)) [
    | inl (inl before) ↦ (s.each b j less before).complete x c
    | inl (inr end) ↦ absurd (none_in x (row rows (4 * b + j)) (get_or_past rows (4 * b + j) [] (omega arith)) c)
    | inr past ↦ absurd (none_in x (row rows (4 * b + j)) (get_or_past rows (4 * b + j) [] (omega arith)) c)
  ];
}

-- ---- a start that is at each slice of its block

zero_to_three : (j : ℕ) → j < 4 → (((j ≡ 0) ⊎ (j ≡ 1)) ⊎ (j ≡ 2)) ⊎ (j ≡ 3)
zero_to_three j l = grind arith

pub whole_in : (rows : List (List Start)) (b : ℕ) (w : Start) → 4 * b + 4 ≤ w.after → Contains (row rows (4 * b)) w
    → Contains (row rows (4 * b + 1)) (later 1 w) → Contains (row rows (4 * b + 2)) (later 2 w)
    → Contains (row rows (4 * b + 3)) (later 3 w) → IsWholeIn rows b w
whole_in rows b w apart first second third fourth = record {
  apart = apart;
  all = λ j less. elim (zero_to_three j less) [
    | inl (inl (inl e)) ↦
        let same : later j w ≡ w = ap (λ (n : ℕ). let x : Start = record { worth = w.worth; place = w.place; after = n } in x) (omega arith) in
        subst (λ (x : Start). Contains (row rows (4 * b + j)) x) (sym same) (subst (λ (n : ℕ). Contains (row rows n) w) (omega arith) first)
    | inl (inl (inr e)) ↦ subst (λ (n : ℕ). Contains (row rows (4 * b + n)) (later n w)) (sym e) second
    | inl (inr e) ↦ subst (λ (n : ℕ). Contains (row rows (4 * b + n)) (later n w)) (sym e) third
    | inr e ↦ subst (λ (n : ℕ). Contains (row rows (4 * b + n)) (later n w)) (sym e) fourth
  ];
}
