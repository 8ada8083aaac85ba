use Rattle.std.proofs.Common.{◌+◌, ◌≤◌}
use Rattle.explain.specs.Crossings.{AreGainsTo}
use Rattle.explain.proofs.crossing.gains_of.Given as goal

abbrev pub invariant-loop-index : goal.invariant-loop-index
invariant-loop-index l = record {
  gains : AreGainsTo l.snapshot l.prices.0 l.telescope.0 l.openings.request.0 (l.snapshot.first.0 + l.index) l.gains.starts l.gains.greatest;
  few : l.gains.starts ≤ l.index;
}
