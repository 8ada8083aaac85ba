use Rattle.interval_solver.specs.Listings.{AreAdded}
use Rattle.interval_solver.proofs.listing.push_starts.Given as goal

abbrev pub invariant-loop-slice : goal.invariant-loop-slice
invariant-loop-slice l = AreAdded l.offer l.first l.from l.slice l.initial.rows.items l.rows.items
