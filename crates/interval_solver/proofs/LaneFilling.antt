-- Tables of several lanes, as they are filled.
use Rattle.std.proofs.Common.{◌≡◌, ℕ, ◌+◌, ◌<◌, ◌≤◌, inl, inr, ℤ, pos, ◌≤ℤ◌, List, [], length, slice_index_or, slice_set, All, Contains, sym, ◌∙◌, ap}
use Rattle.std.proofs.Common.{subst, length-set, get_or-set_same, replicate, arith}
use Rattle.std.proofs.lemmas.Int.{ints}
use Rattle.std.proofs.lemmas.List.{get_or-map, get_or-replicate, length-map, length-replicate, map-set}
use Rattle.std.proofs.lemmas.List.Elements.{All-map, All-set, All-replicate, All-from_get_or, Contains-get_or}
use Rattle.interval_solver.specs.declared.start.Start.{Start}
use Rattle.plan_base.specs.Tables.{row, entry}
use Rattle.plan_base.specs.Verdict.{IsPriceInRange}
use Rattle.interval_solver.specs.Tables.{IsEntry, gain, IsFitting, DoRowsFit}
use Rattle.interval_solver.specs.Lanes.{number_in, lane, IsForLanes, IsLarger}
use Rattle.interval_solver.specs.Filling.{IsMostAmong, IsFilledFrom, AreFilledFrom, IsRestBest}
use Rattle.interval_solver.proofs.Filling.{filled_at_end, most_is_entry, filled_more}

-- ---- lanes

pub lane_all : (n : ℕ) (P : ℤ → Type 0) (lists : List (List ℤ)) (l : ℕ) → l < n → All (IsForLanes n P) lists → All P (lane l lists)
lane_all n P lists l h all = All-map P (number_in l) lists (λ k d i. let one = all k d i in one.each l (pos 0) (omega (arith, one.count)))

-- the number of a lane in an element that was read
pub lane_read : (lists : List (List ℤ)) (k l : ℕ) (numbers : List ℤ) → k < length lists → numbers ≡ slice_index_or lists k numbers
    → number_in l numbers ≡ slice_index_or (lane l lists) k (pos 0)
lane_read lists k l numbers h is = ap (number_in l) is ∙ sym (get_or-map (number_in l) lists k numbers (pos 0) h)

-- ---- one slice more

-- the greatest of a row from that of its single starts and that of the rest
pub row_most : (starts singles : List Start) (g : Start → ℤ) (next rest least best : ℤ) → IsLarger next rest least → pos 0 ≤ℤ next
    → ((x : Start) → Contains singles x → Contains starts x)
    → IsRestBest starts singles g rest → IsMostAmong (Contains singles) g least best → IsMostAmong (Contains starts) g next best
row_most starts singles g next rest least best larger positive within others most = record {
  above = let one : next ≤ℤ least = larger.first in let two : least ≤ℤ best = most.above in omega (arith, ints);
  each = λ x c. elim (others.above x c) [
    | inl single ↦ most.each x single
    | inr less ↦ let one : rest ≤ℤ least = larger.second in let two : least ≤ℤ best = most.above in omega (arith, ints)
  ];
  reached = elim most.reached [
    | inl same ↦ elim larger.one [
      | inl next_is ↦ inl (same ∙ next_is)
      | inr rest_is ↦ elim others.reached [
        | inl zero ↦ let one : next ≤ℤ least = larger.first in inl (omega (arith, ints))
        | inr s ↦ inr (s.0, s.1, same ∙ rest_is ∙ s.2)
      ]
    ]
    | inr s ↦ inr (s.0, within s.0 s.1, s.2)
  ];
}

module _ (n : ℕ) (rows : List (List Start)) (prices table : List (List ℤ)) (k : ℕ) (best : List ℤ) (h : k < length rows) (few : length rows ≤ 1440)
    (fit : DoRowsFit (length prices) rows) (range : All (IsForLanes n IsPriceInRange) prices)
    (filled : AreFilledFrom n rows prices table (k + 1)) (long : length best ≡ n)
    (most : (l : ℕ) → l < n → IsMostAmong (Contains (row rows k)) (gain (lane l prices) (lane l table)) (entry (lane l table) (k + 1)) (number_in l best)) where
  lane_count : (l : ℕ) → length (lane l table) ≡ length rows + 1
  lane_count l = length-map table (number_in l) ∙ filled.count

  lane_fit : (l : ℕ) → DoRowsFit (length (lane l prices)) rows
  lane_fit l = subst (λ (m : ℕ). DoRowsFit m rows) (sym (length-map prices (number_in l))) fit

  best_entries : All IsEntry best
  best_entries = All-from_get_or IsEntry best (pos 0) (λ l i.
      let below : l < n = omega arith in
      most_is_entry rows (lane l prices) (lane l table) k (number_in l best) h (lane_count l) (lane_all n IsPriceInRange prices l below range)
      (lane_fit l) (filled.filled l below) (most l below) few)

  pub slice_filled : AreFilledFrom n rows prices (slice_set table k best) k
  slice_filled = record {
    count = length-set table k best ∙ filled.count;
    entries = All-set (IsForLanes n IsEntry) table k best (record { count = long; each = best_entries }) filled.entries;
    filled = λ l below.
        let set : lane l (slice_set table k best) ≡ slice_set (lane l table) k (number_in l best) = map-set (number_in l) table k best in
        subst (λ (t : List ℤ). IsFilledFrom rows (lane l prices) t k) (sym set)
        (filled_more rows (lane l prices) (lane l table) k (number_in l best) h (lane_count l) (lane_all n IsPriceInRange prices l below range)
        (lane_fit l) (filled.filled l below) (most l below));
  }

-- ---- starts that fit

pub all_fit : (rows : List (List Start)) (m k : ℕ) (xs : List Start) → DoRowsFit m rows → ((x : Start) → Contains xs x → Contains (row rows k) x)
    → All (IsFitting (length rows) m k) xs
all_fit rows m k xs fit within = λ i d l. fit k _ (within _ (Contains-get_or xs i d l))

-- ---- the tables of no slice yet

pub none_filled : (n : ℕ) (rows : List (List Start)) (prices table : List (List ℤ)) (k : ℕ) → k ≡ length rows → length table ≡ length rows + 1
    → All (IsForLanes n IsEntry) table → AreFilledFrom n rows prices (slice_set table k (replicate n (pos 0))) k
none_filled n rows prices table k end count entries = record {
  count = length-set table k (replicate n (pos 0)) ∙ count;
  entries = All-set (IsForLanes n IsEntry) table k (replicate n (pos 0))
      (record { count = length-replicate n (pos 0); each = All-replicate IsEntry n (pos 0) (omega (arith, ints), omega (arith, ints)) }) entries;
  filled = λ l h.
      let last : k < length table = omega arith in
      let within : k < length (slice_set table k (replicate n (pos 0))) = omega (arith, length-set table k (replicate n (pos 0))) in
      let zero : entry (lane l (slice_set table k (replicate n (pos 0)))) k ≡ pos 0
      = get_or-map (number_in l) (slice_set table k (replicate n (pos 0))) k [] (pos 0) within
      ∙ ap (number_in l) (get_or-set_same table k (replicate n (pos 0)) [] last) ∙ get_or-replicate n l (pos 0) (pos 0) h
      in
      subst (IsFilledFrom rows (lane l prices) (lane l (slice_set table k (replicate n (pos 0))))) (sym end)
      (filled_at_end rows (lane l prices) (lane l (slice_set table k (replicate n (pos 0))))
      (ap (entry (lane l (slice_set table k (replicate n (pos 0))))) (sym end) ∙ zero));
}
