use Rattle.std.proofs.Common.{refl}
use Rattle.interval_solver.specs.Lanes.{lane}
use Rattle.interval_solver.proofs.Most.{raised_more}
use Rattle.interval_solver.proofs.table.row_best.Goals as goal

pub loop-start-preserved : goal.loop-start-preserved
loop-start-preserved g c = record {
  fit = c.raised-greatest.ensures.fit;
  most = λ l h. raised_more (lane l c.args.prices.now) (lane l c.args.table.now) c.loop-start.start-index _ _ _ _ _ _ c.args.row.now
      c.loop-start-test.true refl (c.weight_of-weight.ensures.each l h) (c.raised-greatest.ensures.each l h) (c.loop-start.invariant.most l h);
}
