-- A table over the listing of a telescope's starts has its bests.
use Rattle.std.proofs.Common.{◌≡◌, ℕ, suc, ◌+◌, ◌-◌, ◌<◌, ◌≤◌, ◌⊎◌, inl, inr, ℤ, pos, ◌+ℤ◌, ◌≤ℤ◌, List, length, All, Contains, refl, sym, ◌∙◌, ap, subst, arith}
use Rattle.std.proofs.lemmas.Int.{ints}
use Rattle.plan_base.specs.declared.parts.Parts.{Parts}
use Rattle.plan_base.specs.declared.claim.Placement.{Placement}
use Rattle.plan_base.specs.Requests.{listed}
use Rattle.plan_base.specs.Snapshot.{IsOrderly}
use Rattle.plan_base.specs.Starts.{size_of}
use Rattle.plan_base.specs.Bound.{weight, IsBest}
use Rattle.plan_base.specs.Verdict.{IsPriceInRange}
use Rattle.plan_base.proofs.RowTables.{first_entry_best}
use Rattle.plan_base.proofs.Sizes.{start_size_above}
use Rattle.plan_base.proofs.Limits.{weight_between}
use Rattle.bound_checker.specs.declared.table.Start.{Start}
use Rattle.plan_base.specs.Tables.{entry, row, IsStartOn}
use Rattle.bound_checker.specs.Tables.{IsWeight, gain, IsFitting, DoRowsFit, IsGreatestAt, IsRecursion}
use Rattle.bound_checker.specs.Listings.{IsToldBy, IsListing, IsBefore}
use Rattle.bound_checker.proofs.StartRows.{rows_are}

module _ (s : Parts) (prices : List ℤ) (t : ℕ) (rows : List (List Start)) (orderly : IsOrderly s) (range : All IsPriceInRange prices)
    (listing : IsListing s prices t (IsBefore s (length (listed s))) rows) where
  -- each start ends after it begins, and within the rows
  pub rows_fit : DoRowsFit rows
  rows_fit k x has =
      let p = listing.possible k x has in
      let some : 0 < size_of s p.0.request.0 = start_size_above s orderly p.0 p.1.possible in
      let ends : p.0.slice.0 + size_of s p.0.request.0 ≤ s.first.0 + s.slices = p.1.possible.ends in
      let count : length rows ≡ s.slices = listing.count in
      let after : s.first.0 + x.after ≡ p.0.slice.0 + size_of s p.0.request.0 = p.3.after in
      let at : p.0.slice.0 ≡ s.first.0 + k = p.2 in
      record {
        weight = subst IsWeight (sym p.3.gives) (weight_between s prices p.0 orderly range p.1.possible);
        after = omega arith;
        within = omega arith;
      }

  -- the first entry is the best from the first slice on
  pub first_best : (table : List ℤ) → IsRecursion rows table → IsBest s prices t s.first.0 (entry table 0)
  first_best table recursion = first_entry_best s prices t (λ y. y.weight) (λ y. y.after) rows table orderly (rows_are s prices t rows listing) recursion
