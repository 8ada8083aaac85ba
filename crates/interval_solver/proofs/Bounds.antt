-- Rows that are kept one after another.
use Rattle.std.proofs.Common.{◌≡◌, ℕ, zero, suc, ◌+◌, ◌-◌, ◌<◌, ◌≤◌, List, [], ◌∷◌, ◌++◌, length, slice_range, take, drop, refl, sym, ◌∙◌, ap, arith, add-one}
use Rattle.std.proofs.lemmas.List.{take-append-le, drop-append-le, drop_at, take_all, length-drop, length-append}
use Rattle.std.specs.Prelude.{slice_index}
use Rattle.interval_solver.specs.declared.start.Start.{Start}
use Rattle.interval_solver.specs.RowLists.{rows_from, rows_of, AreEnds, AreBounds}
use Rattle.plan_base.specs.Tables.{row}

length-rows_from : (starts : List Start) (begin : ℕ) (ends : List ℕ) → length (rows_from starts begin ends) ≡ length ends
length-rows_from starts begin [] = refl
length-rows_from starts begin (end ∷ ends) = ap suc (length-rows_from starts end ends)

pub length-rows_of : (starts : List Start) (bounds : List ℕ) → AreBounds starts bounds → length (rows_of starts bounds) + 1 ≡ length bounds
length-rows_of starts [] h = absurd h
length-rows_of starts (begin ∷ ends) h = let long : length (rows_from starts begin ends) ≡ length ends = length-rows_from starts begin ends in omega arith

row-rows_from : (starts : List Start) (begin : ℕ) (ends : List ℕ) (k : ℕ) → k < length ends
    → row (rows_from starts begin ends) k ≡ slice_range starts (slice_index (begin ∷ ends) k) (slice_index ends k)
row-rows_from starts begin [] k l = absurd (omega arith)
row-rows_from starts begin (end ∷ ends) zero l = refl
row-rows_from starts begin (end ∷ ends) (suc k) l = row-rows_from starts end ends k (omega arith)

pub row-rows_of : (starts : List Start) (bounds : List ℕ) (k : ℕ) → k + 1 < length bounds
    → row (rows_of starts bounds) k ≡ slice_range starts (slice_index bounds k) (slice_index bounds (k + 1))
row-rows_of starts [] k l = absurd (omega arith)
row-rows_of starts (begin ∷ ends) k l = rw add-one (row-rows_from starts begin ends k (omega arith))

ends_within : (starts : List Start) (begin : ℕ) (ends : List ℕ) → AreEnds starts begin ends → begin ≤ length starts
ends_within starts begin [] h = omega arith
ends_within starts begin (end ∷ ends) h = let rest : end ≤ length starts = ends_within starts end ends h.1 in let rises : begin ≤ end = h.0 in omega arith

rising_from : (starts : List Start) (begin : ℕ) (ends : List ℕ) (k : ℕ) → AreEnds starts begin ends → k < length ends
    → (slice_index (begin ∷ ends) k ≤ slice_index ends k) × (slice_index ends k ≤ length starts)
rising_from starts begin [] k h l = absurd (omega arith)
rising_from starts begin (end ∷ ends) zero h l = (h.0, ends_within starts end ends h.1)
rising_from starts begin (end ∷ ends) (suc k) h l = rising_from starts end ends k h.1 (omega arith)

pub rising : (starts : List Start) (bounds : List ℕ) (k : ℕ) → AreBounds starts bounds → k + 1 < length bounds
    → (slice_index bounds k ≤ slice_index bounds (k + 1)) × (slice_index bounds (k + 1) ≤ length starts)
rising starts [] k h l = absurd h
rising starts (begin ∷ ends) k h l = rw add-one (rising_from starts begin ends k h (omega arith))

-- ---- one row more

same_part : (starts xs : List Start) (begin end : ℕ) → begin ≤ end → end ≤ length starts → slice_range (starts ++ xs) begin end ≡ slice_range starts begin end
same_part starts xs begin end order within =
    let some : begin ≤ length starts = omega arith in
    let few : end - begin ≤ length (drop begin starts) = simp length-drop (omega arith) in
    ap (take (end - begin)) (drop-append-le begin starts xs some) ∙ take-append-le (end - begin) (drop begin starts) xs few

rows_from-push : (starts xs : List Start) (begin : ℕ) (ends : List ℕ) (n : ℕ) → AreEnds starts begin ends → n ≡ length starts + length xs
    → rows_from (starts ++ xs) begin (ends ++ n ∷ []) ≡ rows_from starts begin ends ++ xs ∷ []
rows_from-push starts xs begin [] n h e =
    ap (λ (zs : List Start). zs ∷ []) (ap (take (n - begin)) (drop_at starts xs begin (sym h)) ∙ take_all (n - begin) xs (omega arith))
rows_from-push starts xs begin (end ∷ ends) n h e =
    let part = same_part starts xs begin end h.0 (ends_within starts end ends h.1) in
    let rest = rows_from-push starts xs end ends n h.1 e in
    cc

pub rows_of-push : (starts xs : List Start) (bounds : List ℕ) (n : ℕ) → AreBounds starts bounds → n ≡ length starts + length xs
    → rows_of (starts ++ xs) (bounds ++ n ∷ []) ≡ rows_of starts bounds ++ xs ∷ []
rows_of-push starts xs [] n h e = absurd h
rows_of-push starts xs (begin ∷ ends) n h e = rows_from-push starts xs begin ends n h e

AreEnds-push : (starts xs : List Start) (begin : ℕ) (ends : List ℕ) (n : ℕ) → AreEnds starts begin ends → n ≡ length starts + length xs
    → AreEnds (starts ++ xs) begin (ends ++ n ∷ [])
AreEnds-push starts xs begin [] n h e = (omega arith, e ∙ sym (length-append starts xs))
AreEnds-push starts xs begin (end ∷ ends) n h e = (h.0, AreEnds-push starts xs end ends n h.1 e)

pub AreBounds-push : (starts xs : List Start) (bounds : List ℕ) (n : ℕ) → AreBounds starts bounds → n ≡ length starts + length xs
    → AreBounds (starts ++ xs) (bounds ++ n ∷ [])
AreBounds-push starts xs [] n h e = absurd h
AreBounds-push starts xs (begin ∷ ends) n h e = AreEnds-push starts xs begin ends n h e
