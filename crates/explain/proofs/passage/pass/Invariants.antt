use Rattle.explain.specs.Crossings.{IsPassedTo}
use Rattle.explain.proofs.passage.pass.Given as goal

abbrev pub invariant-loop-telescope : goal.invariant-loop-telescope
invariant-loop-telescope l = IsPassedTo l.snapshot l.prices.0 l.openings.request.0 l.telescope l.passage.starts l.passage.detour
