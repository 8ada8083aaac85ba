use Rattle.std.proofs.Common.{rules}
use Rattle.plan_io.proofs.Pieces.{adds_more}
use Rattle.plan_io.proofs.sink.put.Goals as goal

pub loop-done-preserved : goal.loop-done-preserved
loop-done-preserved g c = record {
  within = search rules;
  written = adds_more _ (g.K.Sink.written c.loop-done.sink) _ c.args.piece.now c.loop-done.done c.in-Took.count c.loop-done.invariant.written
      c.in-Took.ensures.bytes.1;
  later = search rules;
}
