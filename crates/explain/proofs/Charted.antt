-- Tables over the starts of a telescope have its bests.
use Rattle.std.proofs.Common.{◌≡◌, ℕ, suc, ◌+◌, ◌-◌, ◌<◌, ◌≤◌, ◌⊎◌, inl, inr, ℤ, pos, ◌+ℤ◌, ◌≤ℤ◌, List, length, refl, ◌∙◌, ap, arith}
use Rattle.std.proofs.lemmas.Int.{ints}
use Rattle.plan_base.specs.declared.parts.Parts.{Parts}
use Rattle.plan_base.specs.declared.claim.Placement.{Placement}
use Rattle.plan_base.specs.Requests.{listed}
use Rattle.plan_base.specs.Snapshot.{IsOrderly}
use Rattle.plan_base.specs.Starts.{size_of}
use Rattle.plan_base.specs.Bound.{weight}
use Rattle.plan_base.specs.Tables.{IsStartOn, slice_after, horizon_end, entry}
use Rattle.plan_base.proofs.Sizes.{start_size_above}
use Rattle.plan_base.proofs.RowTables.{rows_table}
use Rattle.plan_base.proofs.Tables.{table_best}
use Rattle.bound_checker.specs.declared.table.Start.{Start}
use Rattle.bound_checker.specs.Tables.{IsRecursion}
use Rattle.bound_checker.specs.Listings.{IsListing, IsBefore}
use Rattle.bound_checker.proofs.StartRows.{rows_are}
use Rattle.explain.specs.declared.chart.Chart.{Chart}
use Rattle.explain.specs.Through.{IsTableUntil}
use Rattle.explain.specs.Steps.{IsFilled, IsChart}
use Rattle.explain.proofs.BestsUntil.{table_until}

module _ (s : Parts) (prices : List ℤ) (t : ℕ) (rows : List (List Start)) (orderly : IsOrderly s)
    (listing : IsListing s prices t (IsBefore s (length (listed s))) rows) where
  module _ (table : List ℤ) (filled : IsFilled rows table) where
    -- the number until slice k
    abbrev until_slice : ℕ → ℤ
    until_slice k = entry table (k - s.first.0)

    rises : (k : ℕ) → s.first.0 ≤ k → k < horizon_end s → until_slice k ≤ℤ until_slice (suc k)
    rises k from below =
        let count : length rows ≡ s.slices = listing.count in
        let up : (entry table (k - s.first.0) +ℤ pos 0) ≤ℤ entry table (k - s.first.0 + 1) =
        filled.above (k - s.first.0) (k - s.first.0 + 1) (pos 0) (omega arith, inl (refl, refl)) in
        let next : entry table (suc k - s.first.0) ≡ entry table (k - s.first.0 + 1) = ap (entry table) (omega arith) in
        omega (arith, ints)

    above_start : (p : Placement) → IsStartOn s t p → (until_slice p.slice.0 +ℤ weight s prices p) ≤ℤ until_slice (slice_after s p)
    above_start p start =
        let count : length rows ≡ s.slices = listing.count in
        let x = (rows_are s prices t rows listing).complete p start in
        let some : 0 < size_of s p.request.0 = start_size_above s orderly p start.possible in
        let begins : s.first.0 ≤ p.slice.0 = start.possible.begins in
        let ends : p.slice.0 + size_of s p.request.0 ≤ s.first.0 + s.slices = start.possible.ends in
        let after : s.first.0 + x.0.after ≡ p.slice.0 + size_of s p.request.0 = x.2.ends_so in
        let up : (entry table (p.slice.0 - s.first.0) +ℤ x.0.weight) ≤ℤ entry table x.0.after =
        filled.above (p.slice.0 - s.first.0) x.0.after x.0.weight (omega arith, inr (x.0, x.1, refl, refl)) in
        let there : entry table (slice_after s p - s.first.0) ≡ entry table x.0.after = ap (entry table) (omega arith) in
        let weighs : x.0.weight ≡ weight s prices p = x.2.weighs_so in
        omega (arith, ints)

    reached_by : (k : ℕ) → s.first.0 ≤ k → k < horizon_end s
        → (until_slice (suc k) ≡ until_slice k)
        ⊎ ((p : Placement) × IsStartOn s t p × (slice_after s p ≡ suc k) × (until_slice (suc k) ≡ until_slice p.slice.0 +ℤ weight s prices p))
    reached_by k from below =
        let next : entry table (suc k - s.first.0) ≡ entry table (k - s.first.0 + 1) = ap (entry table) (omega arith) in
        elim (filled.reached (k - s.first.0 + 1)) [
          | inl none ↦
              let low : pos 0 ≤ℤ until_slice k = filled.low (k - s.first.0) in
              let up : until_slice k ≤ℤ until_slice (suc k) = rises k from below in
              inl (omega (arith, ints))
          | inr (i, w, (l, inl (e, f)), gives) ↦
              let at : entry table i ≡ until_slice k = ap (entry table) (omega arith) in
              inl (omega (arith, ints))
          | inr (i, w, (l, inr (x, has, e, f)), gives) ↦
              let p = (rows_are s prices t rows listing).possible i x has in
              let slice : p.0.slice.0 ≡ s.first.0 + i = p.2 in
              let after : s.first.0 + x.after ≡ slice_after s p.0 = p.3.ends_so in
              let weighs : x.weight ≡ weight s prices p.0 = p.3.weighs_so in
              let at : entry table i ≡ until_slice p.0.slice.0 = ap (entry table) (omega arith) in
              inr (p.0, p.1, omega arith, omega (arith, ints))
        ]

    until_is : IsTableUntil s prices t until_slice
    until_is = record {
      at_first = let none : s.first.0 - s.first.0 ≡ 0 = omega arith in ap (entry table) none ∙ filled.first;
      rising = rises;
      above = above_start;
      reached = reached_by;
    }

  -- the tables are the telescope's chart
  pub is_chart : (chart : Chart) → length chart.after.items ≡ length rows + 1 → IsFilled rows chart.until.items → IsRecursion rows chart.after.items
      → IsChart s prices t chart
  is_chart chart count until after = record {
    until_count = until.count ∙ ap (λ (n : ℕ). n + 1) listing.count;
    after_count = count ∙ ap (λ (n : ℕ). n + 1) listing.count;
    until = table_until s prices t orderly (λ k. entry chart.until.items (k - s.first.0)) (until_is chart.until.items until);
    after = table_best s prices t orderly (λ k. entry chart.after.items (k - s.first.0))
        (rows_table s prices t (λ y. y.weight) (λ y. y.after) rows chart.after.items orderly (rows_are s prices t rows listing) after);
  }
