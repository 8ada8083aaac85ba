use Rattle.std.proofs.Common.{inl, inr, arith}
use Rattle.lanes.proofs.Workers.{working_looked, worker_done, not_false}
use Rattle.lanes.proofs.worker.Worker.next_lanes.Goals as goal

pub returns-then-self-gt0-clause-working : goal.returns-then-self-gt0-clause-working
returns-then-self-gt0-clause-working g c =
    working_looked g.row.L c.take_lanes.new.self c.have_met.new.seat c.take_lanes.ensures.working c.have_met.ensures.looked

pub returns-then-self-gt0-clause-done : goal.returns-then-self-gt0-clause-done
returns-then-self-gt0-clause-done g c = λ over.
    worker_done g.row.L _ (working_looked g.row.L c.take_lanes.new.self c.have_met.new.seat c.take_lanes.ensures.working c.have_met.ensures.looked)
    c.take_lanes.ensures.fresh
    (inr (c.have_met.ensures.met (not_false c.have_met.result over)))

pub returns-else-self-gt0-clause-done : goal.returns-else-self-gt0-clause-done
returns-else-self-gt0-clause-done g c = λ none.
    worker_done g.row.L c.take_lanes.new.self c.take_lanes.ensures.working c.take_lanes.ensures.fresh
    (let taken = c.if-self-gt0.false in inl ((omega arith), c.take_lanes.ensures.none_left (omega arith)))
