-- Tables of what telescopes give from each slice on.
use Rattle.std.proofs.Common.{◌≡◌, ℕ, ◌+◌, ◌-◌, ◌<◌, ◌≤◌, inl, inr, ℤ, pos, List, [], ◌∷◌, ◌++◌, length, slice_index_or, All, refl, sym, ◌∙◌, ap, subst, arith}
use Rattle.std.proofs.lemmas.List.{get_or_append_left, get_or_push, get_or_default, length_push}
use Rattle.plan_base.specs.declared.parts.Parts.{Parts}
use Rattle.plan_base.specs.Requests.{listed}
use Rattle.plan_base.specs.Snapshot.{IsOrderly}
use Rattle.plan_base.specs.Bound.{IsBest}
use Rattle.plan_base.specs.Verdict.{IsPriceInRange}
use Rattle.plan_base.specs.Tables.{entry, row}
use Rattle.plan_base.proofs.RowTables.{rows_table}
use Rattle.plan_base.proofs.Tables.{table_best}
use Rattle.plan_base.proofs.Limits.{best_between}
use Rattle.bound_checker.specs.declared.table.Start.{Start}
use Rattle.bound_checker.specs.Tables.{IsEntry, IsRecursion}
use Rattle.bound_checker.specs.Listings.{IsListing, IsBefore}
use Rattle.bound_checker.proofs.StartRows.{rows_are}
use Rattle.openings.proofs.Numbers.{below_or_at}
use Rattle.rapid.specs.Tables.{IsTableOf, AreTablesTo}

module _ (s : Parts) (prices : List ℤ) (t : ℕ) (orderly : IsOrderly s) where
  -- what the recursion over the telescope's starts gives
  pub table_made : (rows : List (List Start)) (table : List ℤ) → IsListing s prices t (IsBefore s (length (listed s))) rows
      → length table ≡ length rows + 1 → IsRecursion rows table → IsTableOf s prices t table
  table_made rows table listing count recursion = record {
    count = count ∙ ap (λ (n : ℕ). n + 1) listing.count;
    from_slices = rows_table s prices t (λ y. y.weight) (λ y. y.after) rows table orderly (rows_are s prices t rows listing) recursion;
  }

  module _ (table : List ℤ) (is : IsTableOf s prices t table) where
    -- each entry is a best
    entry_best : (k : ℕ) → k ≤ s.slices → IsBest s prices t (s.first.0 + k) (entry table k)
    entry_best k l =
        subst (λ (i : ℕ). IsBest s prices t (s.first.0 + k) (entry table i)) (omega arith)
        (table_best s prices t orderly (λ i. entry table (i - s.first.0)) is.from_slices (s.first.0 + k) (omega arith) (omega arith))

    pub first_best : IsBest s prices t s.first.0 (entry table 0)
    first_best = let none : s.first.0 + 0 ≡ s.first.0 = omega arith in subst (λ (k : ℕ). IsBest s prices t k (entry table 0)) none (entry_best 0 (omega arith))

    pub entries_between : All IsPriceInRange prices → All IsEntry table
    entries_between range = λ k d l.
        let count : length table ≡ s.slices + 1 = is.count in
        subst IsEntry (get_or_default table k (pos 0) d l) (best_between s prices t (s.first.0 + k) (entry table k) orderly range (entry_best k (omega arith)))

-- what was read as the table of telescope t
pub table_read : (tables : List (List ℤ)) (t i : ℕ) (read xs : List ℤ) → t < length tables → i ≡ t → read ≡ slice_index_or tables i read
    → xs ≡ read → xs ≡ row tables t
table_read tables t i read xs l at is same = same ∙ is ∙ ap (λ (n : ℕ). slice_index_or tables n read) at ∙ get_or_default tables t read [] l

pub tables_none : (s : Parts) (prices : List ℤ) → AreTablesTo s prices 0 []
tables_none s prices = record { count = refl; each = λ t l. absurd (omega arith) }

pub tables_more : (s : Parts) (prices : List ℤ) (n : ℕ) (tables : List (List ℤ)) (table : List ℤ) → AreTablesTo s prices n tables
    → IsTableOf s prices n table → AreTablesTo s prices (n + 1) (tables ++ table ∷ [])
tables_more s prices n tables table are next =
    let count : length tables ≡ n = are.count in
    record {
      count = length_push tables table ∙ ap (λ (m : ℕ). m + 1) count;
      each = λ t l. elim (below_or_at t n l) [
        | inl below ↦ subst (IsTableOf s prices t) (sym (get_or_append_left tables (table ∷ []) [] t (omega arith))) (are.each t below)
        | inr at ↦ subst (λ (u : ℕ). IsTableOf s prices u (row (tables ++ table ∷ []) t)) (sym at)
            (subst (IsTableOf s prices n) (sym (get_or_push tables table [] t (count ∙ sym at))) next)
      ];
    }
