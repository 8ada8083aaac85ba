use Rattle.std.proofs.Common.{true, refl, ap, ◌∙◌, arith}
use Rattle.std.proofs.lemmas.List.{get_or_default}
use Rattle.lanes.specs.declared.worker.LaneFound.{LaneFound}
use Rattle.lanes.proofs.Workers.{working_stopped, lanes_fit}
use Rattle.lanes.proofs.worker.Worker.stop_lane.Goals as goal

pub returns-then-may_stop-clause-working : goal.returns-then-may_stop-clause-working
returns-then-may_stop-clause-working g c =
    let w = c.args.self.now in
    let y : LaneFound = record { found = c.index_mut.result.now.found; stopped = true } in
    let fits = lanes_fit g.row.L w c.requires.working in
    working_stopped g.row.L w c.args.place y c.requires.working c.requires.met c.requires.place (c.if-may_stop.ensures refl)
    (ap (λ (z : LaneFound). z.found) (c.index_mut.ensures.value ∙ get_or_default w.lanes.items c.args.place c.index_mut.result.now y (omega arith)))
