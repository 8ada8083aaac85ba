-- A table over the listing of a telescope's starts has its bests.
use Rattle.std.proofs.Common.{◌≡◌, ℕ, ◌+◌, ◌-◌, ◌<◌, ◌≤◌, ℤ, pos, ◌+ℤ◌, ◌-ℤ◌, List, length, slice_index_or, ◌∙◌, ap, arith}
use Rattle.plan_base.specs.declared.parts.Parts.{Parts}
use Rattle.plan_base.specs.declared.claim.Placement.{Placement}
use Rattle.plan_base.specs.Requests.{listed, place_of}
use Rattle.plan_base.specs.Snapshot.{IsOrderly}
use Rattle.plan_base.specs.Starts.{size_of, worth_at, IsPossibleStart}
use Rattle.plan_base.specs.Bound.{weight, IsBest}
use Rattle.plan_base.proofs.RowTables.{gain_is as row_gain, rows_table, first_entry_best}
use Rattle.plan_base.proofs.Sizes.{start_size_above}
use Rattle.plan_base.proofs.Limits.{worth_at_most}
use Rattle.plan_base.specs.Tables.{slice_after, IsTable, IsRowStart, AreStartRows}
use Rattle.interval_solver.specs.declared.start.Start.{Start}
use Rattle.plan_base.specs.Tables.{entry}
use Rattle.interval_solver.specs.Tables.{start_weight, gain, DoRowsFit, IsRecursion}
use Rattle.interval_solver.specs.Listings.{IsToldBy, IsListing}

module _ (s : Parts) (t : ℕ) (rows : List (List Start)) (orderly : IsOrderly s) (listing : IsListing s t (IsPossibleStart s) rows) where
  -- each start ends after it begins, and within the rows
  pub rows_fit : (m : ℕ) → m ≡ length (listed s) → DoRowsFit m rows
  rows_fit m is k x has =
      let p = listing.possible k x has in
      let possible : IsPossibleStart s p.0 = p.1.start.possible in
      let some : 0 < size_of s p.0.request.0 = start_size_above s orderly p.0 possible in
      let ends : p.0.slice.0 + size_of s p.0.request.0 ≤ s.first.0 + s.slices = possible.ends in
      let count : length rows ≡ s.slices = listing.count in
      let after : s.first.0 + x.after ≡ p.0.slice.0 + size_of s p.0.request.0 = p.1.told.after in
      let at : p.0.slice.0 ≡ s.first.0 + k = p.1.at in
      let place : x.place ≡ place_of s p.0.request.0 = p.1.told.place in
      let known : place_of s p.0.request.0 < length (listed s) = possible.known in
      let worth : x.worth ≡ worth_at s p.0 = p.1.told.worth in
      let most : worth_at s p.0 ≤ 288000000 = worth_at_most s p.0 orderly possible in
      record { worth = omega arith; place = omega arith; after = omega arith; within = omega arith }

  module _ (prices : List ℤ) where
    weight_is : (p : Placement) (x : Start) → IsToldBy s p x → start_weight prices x ≡ weight s prices p
    weight_is p x told = ap (λ (n : ℕ). pos n -ℤ slice_index_or prices x.place (pos 0)) told.worth
        ∙ ap (λ (n : ℕ). pos (worth_at s p) -ℤ slice_index_or prices n (pos 0)) told.place

    -- the row's start is the possible start, at the prices
    told_so : (p : Placement) (x : Start) → IsToldBy s p x → IsRowStart s prices (start_weight prices) (λ y. y.after) p x
    told_so p x told = record { weighs_so = weight_is p x told; ends_so = told.after }

    rows_are : AreStartRows s prices t (start_weight prices) (λ y. y.after) rows
    rows_are = record {
      count = listing.count;
      possible = λ i x has.
          let p = listing.possible i x has in
          (p.0, p.1.start, p.1.at, told_so p.0 x p.1.told);
      complete = λ p start.
          let x = listing.complete p start start.possible in
          (x.0, x.1, told_so p x.0 x.2);
    }

    module _ (table : List ℤ) (recursion : IsRecursion rows prices table) where
      -- the best from slice k on
      abbrev pub from_slice : ℕ → ℤ
      from_slice k = entry table (k - s.first.0)

      pub gain_is : (p : Placement) (x : Start) → IsToldBy s p x → gain prices table x ≡ weight s prices p +ℤ entry table (slice_after s p - s.first.0)
      gain_is p x told = row_gain s prices t (start_weight prices) (λ y. y.after) rows table orderly rows_are recursion p x (told_so p x told)

      pub is_table : IsTable s prices t from_slice
      is_table = rows_table s prices t (start_weight prices) (λ y. y.after) rows table orderly rows_are recursion

      -- the first entry is the best from the first slice on
      pub first_best : IsBest s prices t s.first.0 (entry table 0)
      first_best = first_entry_best s prices t (start_weight prices) (λ y. y.after) rows table orderly rows_are recursion
