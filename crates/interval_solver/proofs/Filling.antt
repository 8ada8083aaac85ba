-- Tables of one lane, as they are filled.
use Rattle.std.proofs.Common.{◌≡◌, ◌≢◌, ℕ, ◌+◌, ◌-◌, ◌*◌, ◌<◌, ◌≤◌, ◌⊎◌, inl, inr, ℤ, pos, ◌+ℤ◌, ◌-ℤ◌, ◌≤ℤ◌, List, length, slice_index_or, slice_set}
use Rattle.std.proofs.Common.{All, Contains, sym, ◌∙◌, ap, subst, get_or-set_other, get_or-set_same, arith}
use Rattle.std.proofs.lemmas.Int.{ints}
use Rattle.std.proofs.lemmas.List.{get_or_past}
use Rattle.interval_solver.specs.declared.start.Start.{Start}
use Rattle.plan_base.specs.Tables.{row, entry}
use Rattle.plan_base.specs.Verdict.{IsPriceInRange}
use Rattle.interval_solver.specs.Tables.{IsWeight, IsEntry, start_weight, gain, IsFitting, DoRowsFit, IsGreatestAt}
use Rattle.interval_solver.specs.Filling.{IsMostAmong, IsFilledFrom}

below_or_from : (j k : ℕ) → (j < k) ⊎ (k ≤ j)
below_or_from j k = grind arith

same_or_later : (k j : ℕ) → k ≤ j → (j ≡ k) ⊎ (k + 1 ≤ j)
same_or_later k j h = grind arith

-- what stands at a place of prices, or 0 past the end
price_at : (prices : List ℤ) (i : ℕ) → All IsPriceInRange prices → IsPriceInRange (slice_index_or prices i (pos 0))
price_at prices i range = elim (below_or_from i (length prices)) [
  | inl l ↦ range i (pos 0) l
  | inr l ↦ let past : slice_index_or prices i (pos 0) ≡ pos 0 = get_or_past prices i (pos 0) l in (omega (arith, ints), omega (arith, ints))
]

-- a worth less a price
difference_between : (w : ℕ) (c : ℤ) → w ≤ 288000000 → IsPriceInRange c → IsWeight (pos w -ℤ c)
difference_between w c h r = let low = r.0 in let high = r.1 in (omega (arith, ints), omega (arith, ints))

weight_in_range : (prices : List ℤ) (x : Start) → All IsPriceInRange prices → x.worth ≤ 288000000 → IsWeight (start_weight prices x)
weight_in_range prices x range h = difference_between x.worth (slice_index_or prices x.place (pos 0)) h (price_at prices x.place range)

pub gain_same : (prices old new : List ℤ) (x : Start) → entry new x.after ≡ entry old x.after → gain prices new x ≡ gain prices old x
gain_same prices old new x e = ap (λ (b : ℤ). start_weight prices x +ℤ b) e

pub filled_at_end : (rows : List (List Start)) (prices table : List ℤ) → entry table (length rows) ≡ pos 0 → IsFilledFrom rows prices table (length rows)
filled_at_end rows prices table zero = record {
  low = λ j h l. let e : entry table j ≡ pos 0 = ap (entry table) (omega arith) ∙ zero in omega (arith, ints);
  high = λ j h l. let e : entry table j ≡ pos 0 = ap (entry table) (omega arith) ∙ zero in omega (arith, ints);
  at_end = zero;
  each = λ j h l. absurd (omega arith);
}

module _ (rows : List (List Start)) (prices table : List ℤ) (k : ℕ) (b : ℤ) (h : k < length rows) (count : length table ≡ length rows + 1)
    (range : All IsPriceInRange prices) (fit : DoRowsFit (length prices) rows) (filled : IsFilledFrom rows prices table (k + 1)) where
  other : (j : ℕ) → j ≢ k → entry (slice_set table k b) j ≡ entry table j
  other j ne = get_or-set_other table k j b (pos 0) ne

  here : entry (slice_set table k b) k ≡ b
  here = get_or-set_same table k b (pos 0) (omega arith)

  after_same : (j : ℕ) (x : Start) → k ≤ j → Contains (row rows j) x → gain prices (slice_set table k b) x ≡ gain prices table x
  after_same j x l c = let f : j < x.after = (fit j x c).after in gain_same prices table (slice_set table k b) x (other x.after (λ e. omega arith))

  greatest_later : (j : ℕ) → k < j → IsGreatestAt rows prices table j → IsGreatestAt rows prices (slice_set table k b) j
  greatest_later j l g =
      let same : entry (slice_set table k b) j ≡ entry table j = other j (λ e. omega arith) in
      let next : entry (slice_set table k b) (j + 1) ≡ entry table (j + 1) = other (j + 1) (λ e. omega arith) in
      record {
        falling = let f : entry table (j + 1) ≤ℤ entry table j = g.falling in omega (arith, ints);
        above = λ x c. let f : gain prices table x ≤ℤ entry table j = g.above x c in
            let e : gain prices (slice_set table k b) x ≡ gain prices table x = after_same j x (omega arith) c in omega (arith, ints);
        reached = elim g.reached [ inl e ↦ inl (same ∙ e ∙ sym next) | inr s ↦ inr (s.0, s.1, same ∙ s.2 ∙ sym (after_same j s.0 (omega arith) s.1)) ];
      }

  module _ (most : IsMostAmong (Contains (row rows k)) (gain prices table) (entry table (k + 1)) b) where
    greatest_here : IsGreatestAt rows prices (slice_set table k b) k
    greatest_here =
        let next : entry (slice_set table k b) (k + 1) ≡ entry table (k + 1) = other (k + 1) (λ e. omega arith) in
        record {
          falling = let f : entry table (k + 1) ≤ℤ b = most.above in omega (arith, ints, here);
          above = λ x c.
              let one : gain prices table x ≤ℤ b = most.each x c in
              let f : gain prices (slice_set table k b) x ≡ gain prices table x = after_same k x (omega arith) c in
              omega (arith, ints, here);
          reached = elim most.reached [ inl e ↦ inl (here ∙ e ∙ sym next) | inr s ↦ inr (s.0, s.1, here ∙ s.2 ∙ sym (after_same k s.0 (omega arith) s.1)) ];
        }

    most_high : b ≤ℤ pos ((length rows - k) * 1000288000000)
    most_high = elim most.reached [
      | inl e ↦ let f : entry table (k + 1) ≤ℤ pos ((length rows - (k + 1)) * 1000288000000) = filled.high (k + 1) (omega arith) (omega arith) in
          omega (arith, ints)
      | inr s ↦
          let fits : IsFitting (length rows) (length prices) k s.0 = fit k s.0 s.1 in
          let f : entry table s.0.after ≤ℤ pos ((length rows - s.0.after) * 1000288000000) = filled.high s.0.after (omega (arith, fits.after)) fits.within in
          let w : start_weight prices s.0 ≤ℤ pos 1000288000000 = (weight_in_range prices s.0 range fits.worth).1 in
          let later : k < s.0.after = fits.after in
          let e : b ≡ gain prices table s.0 = s.2 in
          omega (arith, ints)
    ]

    pub most_is_entry : length rows ≤ 1440 → IsEntry b
    most_is_entry few =
        let next : pos 0 ≤ℤ entry table (k + 1) = filled.low (k + 1) (omega arith) (omega arith) in
        let above : entry table (k + 1) ≤ℤ b = most.above in
        let high : b ≤ℤ pos ((length rows - k) * 1000288000000) = most_high in
        (omega (arith, ints), omega (arith, ints))

    pub filled_more : IsFilledFrom rows prices (slice_set table k b) k
    filled_more =
        let least : pos 0 ≤ℤ entry table (k + 1) = filled.low (k + 1) (omega arith) (omega arith) in
        let above : entry table (k + 1) ≤ℤ b = most.above in
        record {
          low = λ j l m. elim (same_or_later k j l) [
            | inl e ↦ subst (λ (n : ℕ). pos 0 ≤ℤ entry (slice_set table k b) n) (sym e) (omega (arith, ints, here))
            | inr later ↦ let f : pos 0 ≤ℤ entry table j = filled.low j later m in
                let same : entry (slice_set table k b) j ≡ entry table j = other j (λ e. omega arith) in omega (arith, ints)
          ];
          high = λ j l m. elim (same_or_later k j l) [
            | inl e ↦ subst (λ (n : ℕ). entry (slice_set table k b) n ≤ℤ pos ((length rows - n) * 1000288000000)) (sym e)
                (let top : b ≤ℤ pos ((length rows - k) * 1000288000000) = most_high in omega (arith, ints, here))
            | inr later ↦ let f : entry table j ≤ℤ pos ((length rows - j) * 1000288000000) = filled.high j later m in
                let same : entry (slice_set table k b) j ≡ entry table j = other j (λ e. omega arith) in omega (arith, ints)
          ];
          at_end = other (length rows) (λ e. omega arith) ∙ filled.at_end;
          each = λ j l m. elim (same_or_later k j l) [
            | inl e ↦ subst (λ (n : ℕ). IsGreatestAt rows prices (slice_set table k b) n) (sym e) greatest_here
            | inr later ↦ greatest_later j (omega arith) (filled.each j later m)
          ];
        }
