use Rattle.openings.specs.Openings.{AreRowsTo}
use Rattle.openings.proofs.opening.openings_of.Given as goal

abbrev pub invariant-loop-telescope : goal.invariant-loop-telescope
invariant-loop-telescope l = AreRowsTo l.snapshot l.request.0 l.telescope l.rows.items
