use Rattle.explain.specs.Crossings.{AreChartsTo}
use Rattle.explain.proofs.passage.charts_of.Given as goal

abbrev pub invariant-loop-telescope : goal.invariant-loop-telescope
invariant-loop-telescope l = AreChartsTo l.snapshot l.prices.0 l.telescope l.charts.items
