-- What the loops over a table keep.
use Rattle.std.proofs.Common.{◌≡◌, ◌≢◌, ℕ, ◌+◌, ◌-◌, ◌*◌, ◌<◌, ◌≤◌, ◌⊎◌, inl, inr, ℤ, pos, ◌+ℤ◌, ◌≤ℤ◌, List, [], length, replicate, slice_index_or}
use Rattle.std.proofs.Common.{slice_set, All, Contains, refl, sym, ◌∙◌, ap, subst, below_more, get_or-set_other, get_or-set_same, length-set, arith}
use Rattle.std.proofs.lemmas.Int.{ints}
use Rattle.std.proofs.lemmas.List.{get_or_default, get_or-replicate, length-replicate}
use Rattle.std.proofs.lemmas.List.Elements.{Contains-get_or, All-contains}
use Rattle.bound_checker.specs.declared.table.Start.{Start}
use Rattle.plan_base.specs.Tables.{entry, row}
use Rattle.bound_checker.specs.Tables.{IsWeight, IsEntry, gain, IsFitting, DoRowsFit, IsGreatestAt, IsRecursion}

-- the greatest of `least` and of what g gives of the first i elements
pub record IsMostOf (xs : List Start) (g : Start → ℤ) (i : ℕ) (least most : ℤ) : Type 0 where
  pub above : least ≤ℤ most
  pub each : (k : ℕ) (d : Start) → k < i → g (slice_index_or xs k d) ≤ℤ most
  pub reached : (most ≡ least) ⊎ ((x : Start) × Contains xs x × (most ≡ g x))

below_or_at : (k i : ℕ) → k < i + 1 → (k < i) ⊎ (k ≡ i)
below_or_at k i h = grind arith

pub most_more : (xs : List Start) (g : Start → ℤ) (i : ℕ) (least most next gained : ℤ) (x : Start)
    → i < length xs → x ≡ slice_index_or xs i x → gained ≡ g x
    → most ≤ℤ next → gained ≤ℤ next → (next ≡ most) ⊎ (next ≡ gained)
    → IsMostOf xs g i least most → IsMostOf xs g (i + 1) least next
most_more xs g i least most next gained x within at is up over one old = record {
  above = let h : least ≤ℤ most = old.above in omega (arith, ints);
  each = λ k d h. elim (below_or_at k i h) [
    | inl below ↦ let before : g (slice_index_or xs k d) ≤ℤ most = old.each k d below in omega (arith, ints)
    | inr same ↦
        let here : g (slice_index_or xs k d) ≡ gained = ap (λ (n : ℕ). g (slice_index_or xs n d)) same
        ∙ ap g (get_or_default xs i d x within ∙ sym at) ∙ sym is in
        omega (arith, ints)
  ];
  reached = elim one [
    | inl e ↦ elim old.reached [ inl f ↦ inl (e ∙ f) | inr s ↦ inr (s.0, s.1, e ∙ s.2) ]
    | inr e ↦ inr (x, (i, within, sym at), e ∙ is)
  ];
}

-- the table from slice k on; before it all is 0
pub record IsFilledFrom (rows : List (List Start)) (table : List ℤ) (k : ℕ) : Type 0 where
  pub count : length table ≡ length rows + 1
  pub zero : (j : ℕ) → j < k → entry table j ≡ pos 0
  pub low : (j : ℕ) → k ≤ j → j ≤ length rows → pos 0 ≤ℤ entry table j
  pub high : (j : ℕ) → k ≤ j → j ≤ length rows → entry table j ≤ℤ pos ((length rows - j) * 1000288000000)
  pub at_end : entry table (length rows) ≡ pos 0
  pub each : (j : ℕ) → k ≤ j → j < length rows → IsGreatestAt rows table j

-- a table of 0
pub filled_start : (rows : List (List Start)) (table : List ℤ) (n : ℕ) → n ≡ length rows + 1 → table ≡ replicate n (pos 0)
    → IsFilledFrom rows table (length rows)
filled_start rows table n count is = record {
  count = ap (λ (xs : List ℤ). length xs) is ∙ length-replicate n (pos 0) ∙ count;
  zero = λ j h. empty j (omega arith);
  low = λ j h l. let e : entry table j ≡ pos 0 = empty j (omega arith) in omega (arith, ints);
  high = λ j h l. let e : entry table j ≡ pos 0 = empty j (omega arith) in omega (arith, ints);
  at_end = empty (length rows) (omega arith);
  each = λ j h l. absurd (omega arith);
}
  where
    empty : (j : ℕ) → j < n → entry table j ≡ pos 0
    empty j h = ap (λ (xs : List ℤ). entry xs j) is ∙ get_or-replicate n j (pos 0) (pos 0) h

below_or_from : (j k : ℕ) → (j < k) ⊎ (k ≤ j)
below_or_from j k = grind arith

pub filled_entry : (rows : List (List Start)) (table : List ℤ) (k : ℕ) → length rows ≤ 1440 → IsFilledFrom rows table k → (j : ℕ) → j < length table
    → IsEntry (entry table j)
filled_entry rows table k few filled j l =
    let count : length table ≡ length rows + 1 = filled.count in
    elim (below_or_from j k) [
      | inl below ↦ let e : entry table j ≡ pos 0 = filled.zero j below in (omega (arith, ints), omega (arith, ints))
      | inr from ↦
          let low : pos 0 ≤ℤ entry table j = filled.low j from (omega arith) in
          let high : entry table j ≤ℤ pos ((length rows - j) * 1000288000000) = filled.high j from (omega arith) in
          (low, omega (arith, ints))
    ]

gain_same : (old new : List ℤ) (x : Start) → entry new x.after ≡ entry old x.after → gain new x ≡ gain old x
gain_same old new x e = ap (λ (b : ℤ). x.weight +ℤ b) e

same_or_later : (k j : ℕ) → k ≤ j → (j ≡ k) ⊎ (k + 1 ≤ j)
same_or_later k j h = grind arith

module _ (rows : List (List Start)) (table : List ℤ) (k : ℕ) (b : ℤ) (h : k < length rows) (fit : DoRowsFit rows)
    (filled : IsFilledFrom rows table (k + 1)) where
  within : k < length table
  within = let count : length table ≡ length rows + 1 = filled.count in omega arith

  other : (j : ℕ) → j ≢ k → entry (slice_set table k b) j ≡ entry table j
  other j ne = get_or-set_other table k j b (pos 0) ne

  here : entry (slice_set table k b) k ≡ b
  here = get_or-set_same table k b (pos 0) within

  after_same : (j : ℕ) (x : Start) → k ≤ j → Contains (row rows j) x → gain (slice_set table k b) x ≡ gain table x
  after_same j x l c = let f : j < x.after = (fit j x c).after in gain_same table (slice_set table k b) x (other x.after (λ e. omega arith))

  greatest_later : (j : ℕ) → k < j → IsGreatestAt rows table j → IsGreatestAt rows (slice_set table k b) j
  greatest_later j l g =
      let same : entry (slice_set table k b) j ≡ entry table j = other j (λ e. omega arith) in
      let next : entry (slice_set table k b) (j + 1) ≡ entry table (j + 1) = other (j + 1) (λ e. omega arith) in
      record {
        falling = let f : entry table (j + 1) ≤ℤ entry table j = g.falling in omega (arith, ints);
        above = λ x c. let f : gain table x ≤ℤ entry table j = g.above x c in
            let e : gain (slice_set table k b) x ≡ gain table x = after_same j x (omega arith) c in omega (arith, ints);
        reached = elim g.reached [ inl e ↦ inl (same ∙ e ∙ sym next) | inr s ↦ inr (s.0, s.1, same ∙ s.2 ∙ sym (after_same j s.0 (omega arith) s.1)) ];
      }

  greatest_here : IsMostOf (row rows k) (gain table) (length (row rows k)) (entry table (k + 1)) b → IsGreatestAt rows (slice_set table k b) k
  greatest_here most =
      let next : entry (slice_set table k b) (k + 1) ≡ entry table (k + 1) = other (k + 1) (λ e. omega arith) in
      record {
        falling = let f : entry table (k + 1) ≤ℤ b = most.above in omega (arith, ints, here);
        above = λ x c.
            let one : gain table (slice_index_or (row rows k) c.0 x) ≤ℤ b = most.each c.0 x c.1 in
            let e : gain table (slice_index_or (row rows k) c.0 x) ≡ gain table x = ap (gain table) c.2 in
            let f : gain (slice_set table k b) x ≡ gain table x = after_same k x (omega arith) c in
            omega (arith, ints, here);
        reached = elim most.reached [ inl e ↦ inl (here ∙ e ∙ sym next) | inr s ↦ inr (s.0, s.1, here ∙ s.2 ∙ sym (after_same k s.0 (omega arith) s.1)) ];
      }

  most_high : IsMostOf (row rows k) (gain table) (length (row rows k)) (entry table (k + 1)) b → b ≤ℤ pos ((length rows - k) * 1000288000000)
  most_high most = elim most.reached [
    | inl e ↦ let f : entry table (k + 1) ≤ℤ pos ((length rows - (k + 1)) * 1000288000000) = filled.high (k + 1) (omega arith) (omega arith) in
        omega (arith, ints)
    | inr s ↦
        let fits : IsFitting (length rows) k s.0 = fit k s.0 s.1 in
        let f : entry table s.0.after ≤ℤ pos ((length rows - s.0.after) * 1000288000000) = filled.high s.0.after (omega (arith, fits.after)) fits.within in
        let w : s.0.weight ≤ℤ pos 1000288000000 = fits.weight.1 in
        let later : k < s.0.after = fits.after in
        let e : b ≡ gain table s.0 = s.2 in
        omega (arith, ints)
  ]

  pub filled_more : IsMostOf (row rows k) (gain table) (length (row rows k)) (entry table (k + 1)) b → IsFilledFrom rows (slice_set table k b) k
  filled_more most =
      let least : pos 0 ≤ℤ entry table (k + 1) = filled.low (k + 1) (omega arith) (omega arith) in
      let above : entry table (k + 1) ≤ℤ b = most.above in
      record {
        count = length-set table k b ∙ filled.count;
        zero = λ j l. other j (λ e. omega arith) ∙ filled.zero j (omega arith);
        low = λ j l m. elim (same_or_later k j l) [
          | inl e ↦ subst (λ (n : ℕ). pos 0 ≤ℤ entry (slice_set table k b) n) (sym e) (omega (arith, ints, here))
          | inr later ↦ let f : pos 0 ≤ℤ entry table j = filled.low j later m in
              let same : entry (slice_set table k b) j ≡ entry table j = other j (λ e. omega arith) in omega (arith, ints)
        ];
        high = λ j l m. elim (same_or_later k j l) [
          | inl e ↦ subst (λ (n : ℕ). entry (slice_set table k b) n ≤ℤ pos ((length rows - n) * 1000288000000)) (sym e)
              (let top : b ≤ℤ pos ((length rows - k) * 1000288000000) = most_high most in omega (arith, ints, here))
          | inr later ↦ let f : entry table j ≤ℤ pos ((length rows - j) * 1000288000000) = filled.high j later m in
              let same : entry (slice_set table k b) j ≡ entry table j = other j (λ e. omega arith) in omega (arith, ints)
        ];
        at_end = other (length rows) (λ e. omega arith) ∙ filled.at_end;
        each = λ j l m. elim (same_or_later k j l) [
          | inl e ↦ subst (λ (n : ℕ). IsGreatestAt rows (slice_set table k b) n) (sym e) (greatest_here most)
          | inr later ↦ greatest_later j (omega arith) (filled.each j later m)
        ];
      }

-- what was read as the row at slice k
pub row_fits : (rows : List (List Start)) (k : ℕ) (xs : List Start) → DoRowsFit rows → xs ≡ row rows k → All (IsFitting (length rows) k) xs
row_fits rows k xs fit same = λ i d l. fit k _ (subst (λ (ys : List Start). Contains ys (slice_index_or xs i d)) same (Contains-get_or xs i d l))

pub row_read : (rows : List (List Start)) (k : ℕ) (xs read : List Start) → k < length rows → read ≡ slice_index_or rows k read → xs ≡ read → xs ≡ row rows k
row_read rows k xs read l is same = same ∙ is ∙ get_or_default rows k read [] l
