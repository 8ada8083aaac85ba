use Rattle.std.proofs.Common.{◌≡◌, ◌+◌, ◌<◌, ◌⊎◌, inl, inr, true, List, slice_index_or, lit<, refl, sym, subst, ap, ◌∙◌, arith}
use Rattle.std.proofs.lemmas.Bool.{false≢true}
use Rattle.std.proofs.lemmas.List.{get_or_default}
use Rattle.plan_base.specs.declared.claim.Settings.{Settings}
use Rattle.lanes.specs.declared.lane_prices.LanePrices.{LanePrices}
use Rattle.lanes.specs.declared.worker.LaneFound.{LaneFound}
use Rattle.lanes.specs.declared.worker.Worker.{Worker}
use Rattle.lanes.proofs.Workers.{lanes_fit, working_solved, not_true}
use Rattle.lanes.proofs.RoundsInStep.{IsRoundGoing, round_past, round_on}
use Rattle.lanes.proofs.worker.Worker.make_round.Goals as goal
use Rattle.lanes.proofs.worker.Worker.make_round.Goals.{then-not-index, else-not-index}

pub loop-place-preserved : goal.loop-place-preserved
loop-place-preserved g c =
    let L = g.row.L in
    let board = c.args.board.now in
    let start = c.args.self.now in
    let now = c.loop-place.self in
    let h = c.loop-place.invariant in
    let fits = lanes_fit L now h.working in
    let lt = c.loop-place-test.true in
    let same = h.taken in
    elim c.if-not-index.branch [
      | then-not-index w ↦ subst (λ (z : Worker L). IsRoundGoing L board start z c.args.round (c.loop-place.place + 1)) (sym w.self-is)
          (round_on L board start now c.args.round c.loop-place.place h
          (omega arith) w.make_round_of.new.self w.make_round_of.ensures.seat w.make_round_of.ensures.working w.make_round_of.ensures.next)
      | else-not-index w ↦ subst (λ (z : Worker L). IsRoundGoing L board start z c.args.round (c.loop-place.place + 1)) (sym w.self-is)
          (round_past L board start now c.args.round c.loop-place.place h (omega arith)
          (λ e. ap (λ (z : LaneFound). z.stopped) (get_or_default now.lanes.items c.loop-place.place e c.index.result.now (omega arith)
          ∙ sym c.index.ensures) ∙ w.if-not-index.false))
    ]

pub loop-place-init : goal.loop-place-init
loop-place-init g c = record {
  seat = c.requires.seat;
  working = working_solved g.row.L c.args.self.now c.solve.new.self c.requires.working c.solve.ensures.same_snapshot c.solve.ensures.lanes;
  same = record { settings = refl; opening = refl; snapshot = c.solve.ensures.same_snapshot; share = refl };
  claims = refl;
  taken = refl;
  made = record {
    done = λ k d e below. absurd (omega arith);
    left = λ k d e above lt. subst (λ (xs : List LanePrices). ((slice_index_or c.args.self.now.lanes.items k e).stopped ≡ true)
        ⊎ ((slice_index_or xs k d).made ≡ c.args.round)) (sym c.solve.ensures.lanes)
        (c.requires.made k d e lt);
  };
  solved = λ k above lt. c.solve.ensures.solved k lt;
}

pub make_round_of-requires : goal.make_round_of-requires
make_round_of-requires g c =
    let now = c.loop-place.self in
    let h = c.loop-place.invariant in
    let fits = lanes_fit g.row.L now h.working in
    let within : c.loop-place.place < now.taken = (let t = h.taken in let l = c.loop-place-test.true in omega arith) in
    let room : c.loop-place.place < g.row.L = (let n = h.working.equipped.prices_count in omega arith) in (
      lit< tt,
      (
        h.seat,
        (
          h.working,
          (
            within,
            (
              h.solved c.loop-place.place (omega arith) room,
              λ d. elim (h.made.left c.loop-place.place d c.index.result.now (omega arith) within) [
                | inl stopped ↦ absurd (false≢true (not_true c.index.result.now.stopped c.if-not-index.true
                    ∙ ap (λ (z : LaneFound). z.stopped) c.index.ensures ∙ stopped))
                | inr is ↦ (let r = c.requires.round in let e = ap (λ (x : Settings). x.rounds) h.same.settings in omega arith)
              ],
            ),
          ),
        ),
      ),
    )
