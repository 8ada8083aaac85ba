-- The listing of a telescope's starts has all of them, slice by slice, with what each gives and where it ends.
use Rattle.std.proofs.Common.{ℕ, ℤ, List, length}
use Rattle.plan_base.specs.declared.parts.Parts.{Parts}
use Rattle.plan_base.specs.Requests.{listed}
use Rattle.plan_base.specs.Tables.{AreStartRows}
use Rattle.bound_checker.specs.declared.table.Start.{Start}
use Rattle.bound_checker.specs.Listings.{IsListing, IsBefore}

pub rows_are : (s : Parts) (prices : List ℤ) (t : ℕ) (rows : List (List Start)) → IsListing s prices t (IsBefore s (length (listed s))) rows
    → AreStartRows s prices t (λ y. y.weight) (λ y. y.after) rows
rows_are s prices t rows listing = record {
  count = listing.count;
  possible = λ i x has.
      let p = listing.possible i x has in
      (p.0, record { possible = p.1.possible; same_telescope = p.1.same_telescope }, p.2, record { weighs_so = p.3.gives; ends_so = p.3.after });
  complete = λ p start.
      let x = listing.complete p (record { possible = start.possible; same_telescope = start.same_telescope }) start.possible.known in
      (x.0, x.1, record { weighs_so = x.2.gives; ends_so = x.2.after });
}
