-- A table that is raised step by step.
use Rattle.std.proofs.Common.{◌≡◌, ◌≢◌, ℕ, ◌+◌, ◌*◌, ◌<◌, ◌≤◌, ◌⊎◌, inl, inr, ℤ, pos, ◌+ℤ◌, ◌≤ℤ◌, List, length, replicate, slice_index_or, slice_set}
use Rattle.std.proofs.Common.{All, Contains, refl, sym, ◌∙◌, ap, subst, arith, get_or-set_other, get_or-set_same, length-set}
use Rattle.std.proofs.lemmas.Int.{ints}
use Rattle.std.proofs.lemmas.Nat.{mul-le}
use Rattle.std.proofs.lemmas.List.{get_or_default, get_or_past, get_or-replicate, length-replicate}
use Rattle.plan_base.specs.Tables.{entry, row}
use Rattle.bound_checker.specs.declared.table.Start.{Start}
use Rattle.bound_checker.specs.Tables.{IsEntry, IsFitting}
use Rattle.explain.specs.Steps.{IsStepBefore, IsForward, IsFilledTo, IsRaised}
use Rattle.openings.proofs.Numbers.{below_or_at}

same_or_not : (a b : ℕ) → (a ≡ b) ⊎ (a ≢ b)
same_or_not a b = grind arith

below_or_from : (a b : ℕ) → (a < b) ⊎ (b ≤ a)
below_or_from a b = grind arith

-- what a write of a larger number leaves
pub raised_by : (old : List ℤ) (i j : ℕ) (w v : ℤ) → j < length old → entry old j ≤ℤ v → (entry old i +ℤ w) ≤ℤ v
    → (v ≡ entry old j) ⊎ (v ≡ entry old i +ℤ w) → IsRaised old i j w (slice_set old j v)
raised_by old i j w v l first second one =
    let here : entry (slice_set old j v) j ≡ v = get_or-set_same old j v (pos 0) l in
    record {
      count = length-set old j v;
      kept = λ k other. get_or-set_other old j k v (pos 0) other;
      rising = omega (arith, ints);
      above = omega (arith, ints);
      one = elim one [ inl e ↦ inl (here ∙ e) | inr e ↦ inr (here ∙ e) ];
    }

-- a table of 0
pub filled_none : (rows : List (List Start)) (table : List ℤ) → table ≡ replicate (length rows + 1) (pos 0) → IsFilledTo rows 0 table
filled_none rows table is = record {
  count = ap (λ (xs : List ℤ). length xs) is ∙ length-replicate (length rows + 1) (pos 0);
  first = empty 0;
  low = λ j. let e = empty j in omega (arith, ints);
  high = λ j. let e = empty j in omega (arith, ints);
  above = λ i j w step. absurd (omega (arith, step.0));
  reached = λ j. inl (empty j);
}
  where
    empty : (j : ℕ) → entry table j ≡ pos 0
    empty j = ap (λ (xs : List ℤ). entry xs j) is ∙ elim (below_or_from j (length rows + 1)) [
      | inl below ↦ get_or-replicate (length rows + 1) j (pos 0) (pos 0) below
      | inr past ↦ let count : length (replicate (length rows + 1) (pos 0)) ≡ length rows + 1 = length-replicate (length rows + 1) (pos 0) in
          get_or_past (replicate (length rows + 1) (pos 0)) j (pos 0) (omega arith)
    ]

-- the entries of a table are in their range
pub forward_entries : (rows : List (List Start)) (P : ℕ → ℕ → ℤ → Type 0) (table : List ℤ) → length rows ≤ 1440 → IsForward rows P table → All IsEntry table
forward_entries rows P table few forward = λ k d l.
    let count : length table ≡ length rows + 1 = forward.count in
    let low : pos 0 ≤ℤ entry table k = forward.low k in
    let high : entry table k ≤ℤ pos (k * 1000288000000) = forward.high k in
    subst IsEntry (get_or_default table k (pos 0) d l) (low, omega (arith, ints))

-- the same steps
pub forward_same : (rows : List (List Start)) (P Q : ℕ → ℕ → ℤ → Type 0) (table : List ℤ) → ((i j : ℕ) (w : ℤ) → P i j w → Q i j w)
    → ((i j : ℕ) (w : ℤ) → Q i j w → P i j w) → IsForward rows P table → IsForward rows Q table
forward_same rows P Q table to from forward = record {
  count = forward.count;
  first = forward.first;
  low = forward.low;
  high = forward.high;
  above = λ i j w step. forward.above i j w (from i j w step);
  reached = λ j. elim (forward.reached j) [ inl e ↦ inl e | inr (i, w, step, gives) ↦ inr (i, w, to i j w step, gives) ];
}

-- a table with one step more, which no step before it goes on from
module _ (rows : List (List Start)) (P : ℕ → ℕ → ℤ → Type 0) (old new : List ℤ) (i j : ℕ) (w : ℤ) (was : IsForward rows P old)
    (raised : IsRaised old i j w new) (later : i < j) (light : w ≤ℤ pos 1000288000000)
    (starts : (a b : ℕ) (u : ℤ) → P a b u → a ≤ i) where
  kept_from : (a : ℕ) → a ≤ i → entry new a ≡ entry old a
  kept_from a l = raised.kept a (λ e. omega arith)

  grows : (b : ℕ) → entry old b ≤ℤ entry new b
  grows b = elim (same_or_not b j) [
    | inl e ↦ subst (λ (n : ℕ). entry old n ≤ℤ entry new n) (sym e) raised.rising
    | inr other ↦ let same : entry new b ≡ entry old b = raised.kept b other in omega (arith, ints)
  ]

  high_there : entry new j ≤ℤ pos (j * 1000288000000)
  high_there = elim raised.one [
    | inl e ↦ let high : entry old j ≤ℤ pos (j * 1000288000000) = was.high j in omega (arith, ints)
    | inr e ↦
        let high : entry old i ≤ℤ pos (i * 1000288000000) = was.high i in
        let more : (i + 1) * 1000288000000 ≤ j * 1000288000000 = mul-le (i + 1) 1000288000000 j 1000288000000 (omega arith) (omega arith) in
        omega (arith, ints)
  ]

  abbrev More : ℕ → ℕ → ℤ → Type 0
  More a b u = P a b u ⊎ ((a ≡ i) × (b ≡ j) × (u ≡ w))

  above_more : (a b : ℕ) (u : ℤ) → More a b u → (entry new a +ℤ u) ≤ℤ entry new b
  above_more a b u (inl step) =
      let before : (entry old a +ℤ u) ≤ℤ entry old b = was.above a b u step in
      let same : entry new a ≡ entry old a = kept_from a (starts a b u step) in
      let up : entry old b ≤ℤ entry new b = grows b in
      omega (arith, ints)
  above_more a b u (inr (ea, eb, eu)) =
      let same : entry new a ≡ entry old i = ap (entry new) ea ∙ kept_from i (omega arith) in
      let there : entry new b ≡ entry new j = ap (entry new) eb in
      let over : (entry old i +ℤ w) ≤ℤ entry new j = raised.above in
      omega (arith, ints)

  -- an entry that stays is reached as before
  reached_before : (b : ℕ) → entry new b ≡ entry old b → (entry new b ≡ pos 0) ⊎ ((a : ℕ) × (u : ℤ) × More a b u × (entry new b ≡ entry new a +ℤ u))
  reached_before b same = elim (was.reached b) [
    | inl e ↦ inl (same ∙ e)
    | inr (a, u, step, gives) ↦ inr (a, u, inl step, same ∙ gives ∙ ap (λ (z : ℤ). z +ℤ u) (sym (kept_from a (starts a b u step))))
  ]

  reached_more : (b : ℕ) → (entry new b ≡ pos 0) ⊎ ((a : ℕ) × (u : ℤ) × More a b u × (entry new b ≡ entry new a +ℤ u))
  reached_more b = elim (same_or_not b j) [
    | inr other ↦ reached_before b (raised.kept b other)
    | inl e ↦ elim raised.one [
      | inl stays ↦ reached_before b (subst (λ (n : ℕ). entry new n ≡ entry old n) (sym e) stays)
      | inr gives ↦ inr (i, w, inr (refl, e, refl), ap (entry new) e ∙ gives ∙ ap (λ (z : ℤ). z +ℤ w) (sym (kept_from i (omega arith))))
    ]
  ]

  pub forward_more : IsForward rows More new
  forward_more = record {
    count = raised.count ∙ was.count;
    first = kept_from 0 (omega arith) ∙ was.first;
    low = λ b. let least : pos 0 ≤ℤ entry old b = was.low b in let up : entry old b ≤ℤ entry new b = grows b in omega (arith, ints);
    high = λ b. elim (same_or_not b j) [
      | inl e ↦ subst (λ (n : ℕ). entry new n ≤ℤ pos (n * 1000288000000)) (sym e) high_there
      | inr other ↦ let same : entry new b ≡ entry old b = raised.kept b other in
          let high : entry old b ≤ℤ pos (b * 1000288000000) = was.high b in omega (arith, ints)
    ];
    above = above_more;
    reached = reached_more;
  }

-- the steps from the first n entries, the one from entry n to the next, and those of the first m starts in its row
abbrev pub IsPassed : List (List Start) → ℕ → List Start → ℕ → ℕ → ℕ → ℤ → Type 0
IsPassed rows n xs m i j w = IsStepBefore rows n i j w
    ⊎ ((i ≡ n) × (((j ≡ n + 1) × (w ≡ pos 0))
    ⊎ ((k : ℕ) × (x : Start) × (k < m) × (k < length xs) × (slice_index_or xs k x ≡ x) × (j ≡ x.after) × (w ≡ x.weight))))

starts_by : (rows : List (List Start)) (n m : ℕ) (xs : List Start) (i j : ℕ) (w : ℤ) → IsPassed rows n xs m i j w → i ≤ n
starts_by rows n m xs i j w (inl step) = let l : i < n = step.0 in omega arith
starts_by rows n m xs i j w (inr (e, step)) = omega arith

-- past an entry to the next
pub passed_on : (rows : List (List Start)) (n : ℕ) (xs : List Start) (old new : List ℤ) → IsFilledTo rows n old → IsRaised old n (n + 1) (pos 0) new
    → IsForward rows (IsPassed rows n xs 0) new
passed_on rows n xs old new was raised =
    forward_same rows (λ i j w. IsStepBefore rows n i j w ⊎ ((i ≡ n) × (j ≡ n + 1) × (w ≡ pos 0))) (IsPassed rows n xs 0) new
    (λ i j w step. elim step [ inl before ↦ inl before | inr (e, f, g) ↦ inr (e, inl (f, g)) ])
    (λ i j w step. elim step [
      | inl before ↦ inl before
      | inr (e, rest) ↦ elim rest
          [ inl (f, g) ↦ inr (e, f, g) | inr (k, x, l, inside, is, f, g) ↦ absurd (omega (arith, l)) ]
    ])
    (forward_more rows (IsStepBefore rows n) old new n (n + 1) (pos 0) was raised (omega arith) (omega (arith, ints))
    (λ a b u step. let l : a < n = step.0 in omega arith))

-- past one start more in the row
pub passed_more : (rows : List (List Start)) (n m : ℕ) (xs : List Start) (x : Start) (old new : List ℤ) → m < length xs → slice_index_or xs m x ≡ x
    → IsFitting (length rows) n x → IsForward rows (IsPassed rows n xs m) old → IsRaised old n x.after x.weight new
    → IsForward rows (IsPassed rows n xs (m + 1)) new
passed_more rows n m xs x old new within at fits was raised =
    let after : n < x.after = fits.after in
    forward_same rows (λ i j w. IsPassed rows n xs m i j w ⊎ ((i ≡ n) × (j ≡ x.after) × (w ≡ x.weight))) (IsPassed rows n xs (m + 1)) new
    (λ i j w step. elim step [
      | inl (inl before) ↦ inl before
      | inl (inr (e, inl on)) ↦ inr (e, inl on)
      | inl (inr (e, inr (k, y, l, inside, is, f, g))) ↦ inr (e, inr (k, y, omega arith, inside, is, f, g))
      | inr (e, f, g) ↦ inr (e, inr (m, x, omega arith, within, at, f, g))
    ])
    (λ i j w step. elim step [
      | inl before ↦ inl (inl before)
      | inr (e, inl on) ↦ inl (inr (e, inl on))
      | inr (e, inr (k, y, l, inside, is, f, g)) ↦ elim (below_or_at k m l) [
        | inl below ↦ inl (inr (e, inr (k, y, below, inside, is, f, g)))
        | inr here ↦
            let same : y ≡ x = sym is ∙ ap (λ (p : ℕ). slice_index_or xs p y) here ∙ get_or_default xs m y x within ∙ at in
            inr (e, f ∙ ap (λ (z : Start). z.after) same, g ∙ ap (λ (z : Start). z.weight) same)
      ]
    ])
    (forward_more rows (IsPassed rows n xs m) old new n x.after x.weight was raised after fits.weight.1 (starts_by rows n m xs))

-- past the whole row
pub passed_all : (rows : List (List Start)) (n m : ℕ) (xs : List Start) (table : List ℤ) → xs ≡ row rows n → length xs ≤ m
    → IsForward rows (IsPassed rows n xs m) table → IsFilledTo rows (n + 1) table
passed_all rows n m xs table is all forward =
    forward_same rows (IsPassed rows n xs m) (IsStepBefore rows (n + 1)) table
    (λ i j w step. elim step [
      | inl (l, before) ↦ (omega arith, before)
      | inr (e, inl (f, g)) ↦ (omega arith, inl (f ∙ ap (λ (k : ℕ). k + 1) (sym e), g))
      | inr (e, inr (k, x, l, inside, at, f, g)) ↦ (
        omega arith,
        inr (
          x,
          subst (λ (r : ℕ). Contains (row rows r) x) (sym e) (subst (λ (ys : List Start). Contains ys x) is (k, inside, at)),
          f,
          g,
        ),
      )
    ])
    (λ i j w step. elim (below_or_at i n step.0) [
      | inl below ↦ inl (below, step.1)
      | inr here ↦ inr (
        here,
        elim step.1 [
          | inl (f, g) ↦ inl (f ∙ ap (λ (k : ℕ). k + 1) here, g)
          | inr (x, has, f, g) ↦
              let found : Contains xs x = subst (λ (ys : List Start). Contains ys x) (sym is) (subst (λ (r : ℕ). Contains (row rows r) x) here has) in
              inr (found.0, x, omega (arith, found.1), found.1, found.2, f, g)
        ],
      )
    ])
    forward
