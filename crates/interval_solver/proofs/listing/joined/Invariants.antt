use Rattle.std.proofs.Common.{◌≡◌, take}
use Rattle.interval_solver.proofs.listing.joined.Given as goal

abbrev pub invariant-loop-row : goal.invariant-loop-row
invariant-loop-row l = l.list ≡ take l.row-index l.rows
