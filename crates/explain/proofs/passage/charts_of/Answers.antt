use Rattle.std.proofs.Common.{◌+◌, List, sym, subst}
use Rattle.explain.specs.declared.chart.Chart.{Chart}
use Rattle.explain.specs.Crossings.{AreChartsTo}
use Rattle.explain.proofs.Leaving.{charts_more}
use Rattle.explain.proofs.passage.charts_of.Goals as goal

pub loop-telescope-preserved : goal.loop-telescope-preserved
loop-telescope-preserved c =
    subst (λ (charts : List Chart). AreChartsTo c.args.snapshot.now c.args.prices.now.0 (c.loop-telescope.telescope + 1) charts)
    (sym c.in_ok-push.ensures.items)
    (charts_more c.args.snapshot.now c.args.prices.now.0 c.loop-telescope.telescope c.loop-telescope.charts.items c.in_ok-chart_of.field-0
    c.loop-telescope.invariant c.in_ok-chart_of.ensures)
