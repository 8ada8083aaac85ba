use Rattle.std.proofs.Common.{drop}
use Rattle.interval_solver.specs.Uses.{IsTally}
use Rattle.interval_solver.proofs.uses.take_back.Given as goal

abbrev pub invariant-loop-place : goal.invariant-loop-place
invariant-loop-place l = IsTally (drop l.place-index l.places) l.counts
