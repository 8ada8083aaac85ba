use Rattle.std.proofs.Common.{ℕ, vec_len, sym, subst}
use Rattle.plan_base.specs.declared.parts.Parts.{Parts}
use Rattle.plan_base.specs.Feasible.{IsFeasible}
use Rattle.board.specs.Seats.{view, IsSeatOf}
use Rattle.lanes.specs.declared.worker.Worker.{Worker}
use Rattle.lanes.specs.Found.{FoundSeen}
use Rattle.lanes.specs.Solving.{HasWorked, IsGathering}
use Rattle.lanes.proofs.Workers.{few_placed}
use Rattle.lanes.proofs.Closed.{last_of, rest_of, gathered_one}
use Rattle.lanes.proofs.solve.gather.Goals as goal

pub take-requires-clause-few : goal.take-requires-clause-few
take-requires-clause-few g c =
    let s = c.args.taken.now.snapshot in
    let w = c.in-Some.worker in
    let worked = last_of (HasWorked g.row.L s c.args.taken.now.settings c.args.found.now.value) c.loop-worker.workers.items c.pop.new.self.items w
    c.in-Some.ensures.items c.loop-worker.invariant.3 in
    few_placed s w.found.plan c.recall_valid.ensures.orderly
    (subst (λ (p : Parts). IsFeasible p w.found.plan) worked.snapshot worked.done.searched.found.feasible)

pub join-requires-clause-other : goal.join-requires-clause-other
join-requires-clause-other g c =
    last_of (λ (w : Worker g.row.L). IsSeatOf c.args.board.now w.seat) c.loop-worker.workers.items c.pop.new.self.items c.in-Some.worker
    c.in-Some.ensures.items c.loop-worker.invariant.2

pub loop-worker-preserved : goal.loop-worker-preserved
loop-worker-preserved g c =
    let s = c.args.taken.now.snapshot in
    let settings = c.args.taken.now.settings in
    let opening = c.args.found.now.value in
    let w = c.in-Some.worker in
    let before = c.loop-worker.workers.items in
    let after = c.pop.new.self.items in
    let is = c.in-Some.ensures.items in
    let worked = last_of (HasWorked g.row.L s settings opening) before after w is c.loop-worker.invariant.3 in (
      c.join.ensures.seat,
      subst (λ (f : FoundSeen). IsGathering s settings opening c.args.found.now.plan (view c.join.new.seat) f (vec_len c.pop.new.self)) (sym c.take.ensures)
          (gathered_one g.row.L s settings opening c.args.found.now.plan (view c.loop-worker.seat) (view c.join.new.seat) c.loop-worker.found w
          (vec_len c.pop.new.self) c.recall_valid.ensures.orderly worked
          (subst (λ (n : ℕ). IsGathering s settings opening c.args.found.now.plan (view c.loop-worker.seat) c.loop-worker.found n)
          (sym c.in-Some.ensures.len) c.loop-worker.invariant.1) c.join.ensures.joined),
      rest_of (λ (u : Worker g.row.L). IsSeatOf c.args.board.now u.seat) before after w is c.loop-worker.invariant.2,
      rest_of (HasWorked g.row.L s settings opening) before after w is c.loop-worker.invariant.3,
    )
