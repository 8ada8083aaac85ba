use Rattle.std.proofs.Common.{refl, lit<}
use Rattle.lanes.proofs.Workers.{working_looked, next_stopped}
use Rattle.lanes.proofs.worker.Worker.make_round_of.Goals as goal

pub stop_lanes-requires : goal.stop_lanes-requires
stop_lanes-requires g c = (
  lit< tt,
  (working_looked g.row.L c.find.new.self c.have_met.new.seat c.find.ensures.working c.have_met.ensures.looked, c.if-have_met.ensures.met refl),
)

pub returns-else-have_met-clause-working : goal.returns-else-have_met-clause-working
returns-else-have_met-clause-working g c = working_looked g.row.L c.find.new.self c.have_met.new.seat c.find.ensures.working c.have_met.ensures.looked

pub returns-then-have_met-clause-next : goal.returns-then-have_met-clause-next
returns-then-have_met-clause-next g c =
    next_stopped g.row.L c.args.place c.args.self.now c.find.new.self c.stop_lanes.new.self c.have_met.new.seat c.find.ensures.next
    c.have_met.ensures.looked c.stop_lanes.ensures.stopped
