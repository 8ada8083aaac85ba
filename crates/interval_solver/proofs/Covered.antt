-- Rows that are covered by whole and single starts.
use Rattle.std.proofs.Common.{◌≡◌, ℕ, ◌+◌, ◌*◌, ◌/◌, ◌%◌, ◌<◌, ◌≤◌, inl, inr, ℤ, pos, ◌≤ℤ◌, List, [], length, replicate, slice_index_or, Contains}
use Rattle.std.proofs.Common.{refl, sym, ◌∙◌, ap, subst, arith}
use Rattle.std.proofs.lemmas.Int.{ints}
use Rattle.std.proofs.lemmas.List.{get_or-map, get_or-replicate, get_or_past}
use Rattle.interval_solver.specs.declared.start.Start.{Start}
use Rattle.plan_base.specs.Tables.{row, entry}
use Rattle.interval_solver.specs.Tables.{gain, DoRowsFit}
use Rattle.interval_solver.specs.Lanes.{number_in, lane}
use Rattle.interval_solver.specs.Blocks.{later, IsWholeAt, IsCover}
use Rattle.interval_solver.specs.Filling.{IsMostInLanes, AreRestBest}
use Rattle.interval_solver.proofs.Filling.{gain_same}

module _ (rows wholes singles : List (List Start)) (cover : IsCover rows wholes singles) where
  -- what was read as the single starts at slice k
  pub single_within : (k : ℕ) (single : List Start) → single ≡ row singles k → (x : Start) → Contains single x → Contains (row rows k) x
  single_within k single is x c = cover.single k x (subst (λ (xs : List Start). Contains xs x) is c)

  -- past the blocks all starts are single
  pub single_past : (k : ℕ) (x : Start) → 4 * length wholes ≤ k → Contains (row rows k) x → Contains (row singles k) x
  single_past k x past c =
      let at : k ≡ 4 * (k / 4) + k % 4 = omega arith in
      let none : row wholes (k / 4) ≡ [] = get_or_past wholes (k / 4) [] (omega arith) in
      elim (cover.complete (k / 4) (k % 4) x (omega arith) (subst (λ (i : ℕ). Contains (row rows i) x) at c)) [
        | inl single ↦ subst (λ (i : ℕ). Contains (row singles i) x) (sym at) single
        | inr whole ↦ let less : whole.1.0 < length (row wholes (k / 4)) = whole.1.1 in
            let empty : length (row wholes (k / 4)) ≡ 0 = ap length none in absurd (omega arith)
      ]

  pub past_rest_best : (n : ℕ) (prices table : List (List ℤ)) (k : ℕ) (single : List Start) → 4 * length wholes ≤ k → single ≡ row singles k
      → AreRestBest n rows single prices table k (replicate n (pos 0))
  past_rest_best n prices table k single past is = λ l h. record {
    reached = inl (get_or-replicate n l (pos 0) (pos 0) h);
    above = λ x c. inl (subst (λ (xs : List Start). Contains xs x) (sym is) (single_past k x past c));
  }

  -- whole starts fit at the last slice of their block too
  pub whole_fits : (m b : ℕ) (whole : List Start) (w : Start) → DoRowsFit m rows → whole ≡ row wholes b → Contains whole w
      → (w.worth ≤ 288000000) × (w.place < m) × (w.after + 3 ≤ length rows)
  whole_fits m b whole w fit is c =
      let here : Contains (row wholes b) w = subst (λ (ws : List Start). Contains ws w) is c in
      let fits = fit (4 * b + 3) (later 3 w) (cover.whole b 3 (later 3 w) (omega arith) (w, here, refl)) in
      (fits.worth, fits.place, fits.within)

  module _ (m : ℕ) (fit : DoRowsFit m rows) (prices old new : List (List ℤ)) (b : ℕ) (count : length old ≡ length rows + 1)
      (kept : length new ≡ length rows + 1) (same : (k : ℕ) → 4 * b + 4 ≤ k → slice_index_or new k [] ≡ slice_index_or old k []) where
    entry_same : (l k : ℕ) → 4 * b + 4 ≤ k → k ≤ length rows → entry (lane l new) k ≡ entry (lane l old) k
    entry_same l k from within = get_or-map (number_in l) new k [] (pos 0) (omega arith) ∙ ap (number_in l) (same k from)
        ∙ sym (get_or-map (number_in l) old k [] (pos 0) (omega arith))

    whole_same : (l j : ℕ) (x : Start) → j < 4 → IsWholeAt (row wholes b) j x → gain (lane l prices) (lane l new) x ≡ gain (lane l prices) (lane l old) x
    whole_same l j x below whole =
        let apart : 4 * b + 4 ≤ whole.0.after = cover.apart b whole.0 whole.1 in
        let after : x.after ≡ whole.0.after + j = ap (λ (y : Start). y.after) whole.2 in
        let within : x.after ≤ length rows = (fit (4 * b + j) x (cover.whole b j x below whole)).within in
        gain_same (lane l prices) (lane l old) (lane l new) x (entry_same l x.after (omega arith) within)

    -- the greatest of whole starts at a slice of their block, as the table is filled before it
    pub whole_rest_best : (n j k : ℕ) (whole single : List Start) (best : List ℤ) → j < 4 → k ≡ 4 * b + j → whole ≡ row wholes b → single ≡ row singles k
        → IsMostInLanes n (IsWholeAt whole j) prices old (replicate n (pos 0)) best → AreRestBest n rows single prices new k best
    whole_rest_best n j k whole single best below at is alone most = λ l h. record {
      reached = elim ((most l h).reached) [
        | inl zero ↦ inl (zero ∙ get_or-replicate n l (pos 0) (pos 0) h)
        | inr (x, of, e) ↦
            let here : IsWholeAt (row wholes b) j x = subst (λ (ws : List Start). IsWholeAt ws j x) is of in
            inr (x, subst (λ (i : ℕ). Contains (row rows i) x) (sym at) (cover.whole b j x below here), e ∙ sym (whole_same l j x below here))
      ];
      above = λ x c. elim (cover.complete b j x below (subst (λ (i : ℕ). Contains (row rows i) x) at c)) [
        | inl one ↦ inl (subst (λ (xs : List Start). Contains xs x) (ap (row singles) (sym at) ∙ sym alone) one)
        | inr of ↦
            let most_here : gain (lane l prices) (lane l old) x ≤ℤ number_in l best =
            (most l h).each x (subst (λ (ws : List Start). IsWholeAt ws j x) (sym is) of) in
            let e : gain (lane l prices) (lane l new) x ≡ gain (lane l prices) (lane l old) x = whole_same l j x below of in
            inr (omega (arith, ints))
      ];
    }
