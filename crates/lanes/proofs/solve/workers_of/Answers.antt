use Rattle.std.proofs.Common.{All, sym, ap, subst, ◌∙◌, arith}
use Rattle.std.proofs.lemmas.List.Elements.{All-push}
use Rattle.board.specs.declared.seat.BoardSeat.{BoardSeat}
use Rattle.board.specs.declared.seat.SeatView.{SeatView}
use Rattle.board.specs.Seats.{IsSeatOf}
use Rattle.lanes.specs.declared.worker.Worker.{Worker}
use Rattle.lanes.specs.Solving.{IsNew}
use Rattle.lanes.proofs.solve.workers_of.Goals as goal

pub loop-number-preserved : goal.loop-number-preserved
loop-number-preserved g c =
    let h = c.loop-number.invariant in
    let left = c.split-own.ensures.left in
    let board = c.args.board.now in
    let w = c.in_ok-worker_of.field-0 in
    let more = c.in_ok-push.ensures.len in
    let count = h.3 in
    let parts = h.4 in
    let one = h.2 in
    let test = c.loop-number-test.true in
    let few = c.requires.settings.few_workers in
    let seats = ap (λ (v : SeatView). v.seats) left in
    let tickets = ap (λ (v : SeatView). v.tickets) left in (
      c.split-own.ensures.seats.0,
      record {
        bound = ap (λ (v : SeatView). v.least_given) left ∙ h.1.bound;
        value = (let most = h.1.value in let same = ap (λ (v : SeatView). v.greatest_given) left in omega arith);
        claims = ap (λ (v : SeatView). v.claims) left ∙ h.1.claims;
      },
      seats ∙ one,
      omega arith,
      omega arith,
      subst (All (λ (u : Worker g.row.L). IsSeatOf board u.seat)) (sym c.in_ok-push.ensures.items)
          (All-push (λ (u : Worker g.row.L). IsSeatOf board u.seat) c.loop-number.workers.items w h.5
          (subst (λ (x : BoardSeat). IsSeatOf board x) (sym c.in_ok-worker_of.ensures.seat) c.split-own.ensures.seats.1)),
      subst (All (IsNew g.row.L c.args.taken.now.snapshot c.args.taken.now.settings c.args.value)) (sym c.in_ok-push.ensures.items)
          (All-push (IsNew g.row.L c.args.taken.now.snapshot c.args.taken.now.settings c.args.value) c.loop-number.workers.items w h.6
          c.in_ok-worker_of.ensures.new),
    )
