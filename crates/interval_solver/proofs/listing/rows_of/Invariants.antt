use Rattle.interval_solver.specs.Listings.{IsOfFirst, IsListing}
use Rattle.interval_solver.proofs.listing.rows_of.Given as goal

abbrev pub invariant-loop-place : goal.invariant-loop-place
invariant-loop-place l = IsListing l.snapshot l.telescope.0 (IsOfFirst l.runs l.place) l.rows.items
