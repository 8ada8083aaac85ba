use Rattle.bound_checker.specs.Listings.{IsListing, IsBefore}
use Rattle.bound_checker.proofs.starts.starts_of.Given as goal

abbrev pub invariant-loop-place : goal.invariant-loop-place
invariant-loop-place l = IsListing l.snapshot l.prices.0 l.telescope.0 (IsBefore l.snapshot l.place) l.rows.items
