use Rattle.std.proofs.Common.{ap, ◌∙◌, slice_index_or, arith}
use Rattle.lanes.specs.declared.worker.Worker.{Worker}
use Rattle.lanes.proofs.Workers.{plan_few, working_kept}
use Rattle.lanes.proofs.worker.Worker.keep.Goals as goal

pub take-requires-clause-few : goal.take-requires-clause-few
take-requires-clause-few g c =
    let y = c.index.result.now in
    plan_few g.row.L c.args.self.now c.loop-place.place y c.requires.working c.loop-place-test.true
    (c.index.ensures ∙ ap (λ (w : Worker g.row.L). slice_index_or w.lanes.items c.loop-place.place y) c.loop-place.invariant.0)

pub returns-clause-working : goal.returns-clause-working
returns-clause-working g c =
    working_kept g.row.L c.args.self.now c.loop-place.self c.loop-place.place c.requires.working c.requires.made (omega arith) c.loop-place.invariant.0
