use Rattle.std.proofs.Common.{◌≡◌, ◌+◌, ◌≤◌, ◌<◌, lit<, refl, sym, ap, subst, ◌∙◌, List, length, slice_index_or, arith}
use Rattle.std.proofs.lemmas.List.{length-set, get_or_default}
use Rattle.std.proofs.lemmas.List.Elements.{All-set}
use Rattle.plan_base.specs.declared.parts.Parts.{Parts}
use Rattle.plan_base.specs.declared.claim.Placement.{Placement}
use Rattle.board.specs.declared.seat.SeatView.{SeatView}
use Rattle.board.specs.Seats.{view}
use Rattle.board.specs.Steps.{after_lower, after_raise}
use Rattle.lanes.specs.declared.worker.LaneFound.{LaneFound}
use Rattle.lanes.specs.declared.lane_prices.LanePrices.{LanePrices}
use Rattle.lanes.specs.Rounds.{IsAnswer, IsLaneNow}
use Rattle.lanes.specs.Found.{FoundSeen, ArePrices, raised, bettered}
use Rattle.lanes.proofs.RoundInStep.{given}
use Rattle.lanes.proofs.Workers.{equipped_on, in_step_found, prices_bettered, few_placed, lanes_fit, stopped_still}
use Rattle.lanes.proofs.worker.Worker.find.Goals as goal

pub raise-requires : goal.raise-requires
raise-requires g c =
    let x = c.lane-prices.result.now in
    let a = c.answer-answer.ensures.answer x in
    subst (λ (p : List Placement). length p ≤ 1024) (sym c.plan.ensures)
    (few_placed c.args.self.now.steps.snapshot c.answer-answer.new.self.plan c.requires.working.equipped.orderly a.feasible)

pub returns-clause-working : goal.returns-clause-working
returns-clause-working g c =
    let w = c.args.self.now in
    let l = c.args.place in
    let s = w.steps.snapshot in
    let x = c.lane-prices.result.now in
    let mid = c.answer-answer.new.self in
    let bound = c.answer-answer.result.bound in
    let value = c.answer-answer.result.value in
    let fits = lanes_fit g.row.L w c.requires.working in
    let y : LaneFound = record { found = c.raise.new.self; stopped = c.index_mut.result.now.stopped } in
    let old : slice_index_or w.lanes.items l y ≡ c.index_mut.result.now =
    sym (c.index_mut.ensures.value ∙ get_or_default w.lanes.items l c.index_mut.result.now y (omega arith)) in
    let at : slice_index_or w.steps.lanes l x ≡ x = ap (λ (xs : List LanePrices). slice_index_or xs l x) (sym c.answer-answer.ensures.lanes)
    ∙ c.lane-prices.ensures.at x in
    let a : IsAnswer s x bound value mid.plan = subst (λ (z : LanePrices). IsAnswer s z bound value mid.plan) at (c.answer-answer.ensures.answer x) in
    let found : y.found ≡ bettered (slice_index_or w.lanes.items l y).found (given x bound value mid.plan) =
    c.raise.ensures ∙ ap (λ (p : List Placement). raised c.lower.new.self value p) c.plan.ensures
    ∙ ap (λ (f : FoundSeen). raised f value mid.plan) c.lower.ensures
    ∙ ap (λ (z : LaneFound). bettered z.found (given x bound value mid.plan)) (sym old) in
    let told : view c.raise-2.new.seat ≡ after_raise (after_lower (view w.seat) bound c.lower-2.result) value c.raise-2.result =
    c.raise-2.ensures.given ∙ ap (λ (v : SeatView). after_raise v value c.raise-2.result) c.lower-2.ensures.given in
    let same : c.advance.new.self.snapshot ≡ s = c.advance.ensures.same_snapshot ∙ c.answer-answer.ensures.same_snapshot in
    let next : IsLaneNow s l x.lane (x.made + 1) w.steps.lanes c.advance.new.self.lanes =
    subst (λ (p : Parts). IsLaneNow p l x.lane (x.made + 1) w.steps.lanes c.advance.new.self.lanes) c.answer-answer.ensures.same_snapshot
    (subst (λ (xs : List LanePrices). IsLaneNow mid.snapshot l x.lane (x.made + 1) xs c.advance.new.self.lanes) c.answer-answer.ensures.lanes
    (subst (λ (z : LanePrices). IsLaneNow mid.snapshot l z.lane (z.made + 1) mid.lanes c.advance.new.self.lanes) (c.lane-prices.ensures.at x)
    (c.advance.ensures.next x))) in
    let prices : ArePrices s y.found.prices y.found.quota_prices = subst (λ (f : FoundSeen). ArePrices s f.prices f.quota_prices) (sym found)
    (prices_bettered s (slice_index_or w.lanes.items l y).found x bound value mid.plan a.is_lane (c.requires.working.equipped.prices l y (omega arith))) in
    let left : x.made < w.settings.rounds = (let m = ap (λ (z : LanePrices). z.made) at in let r = c.requires.made x in omega arith) in
    record {
      equipped = equipped_on g.row.L w _ c.requires.working.equipped (record { settings = refl; opening = refl; snapshot = same; share = refl })
          (ap (λ (xs : List LanePrices). length xs) next.set ∙ length-set w.steps.lanes l next.prices) (length-set w.lanes.items l y)
          (All-set (λ z. ArePrices s z.found.prices z.found.quota_prices) w.lanes.items l y prices c.requires.working.equipped.prices)
          c.requires.working.equipped.taken
          (ap (λ (v : SeatView). v.seats) told) (ap (λ (v : SeatView). v.tickets) told);
      in_step = in_step_found s c.advance.new.self.snapshot w.settings w.opening (view w.seat)
          (view c.raise-2.new.seat) w.found w.steps.lanes c.advance.new.self.lanes w.lanes.items w.taken l x y
          bound value c.lower-2.result c.raise-2.result mid.plan c.requires.working.in_step c.requires.working.equipped.orderly same c.requires.place
          (omega arith) (omega arith) at left a next told
          (ap (λ (z : LaneFound). z.stopped) (sym old)) found;
    }

pub advance-requires : goal.advance-requires
advance-requires g c =
    let w = c.args.self.now in
    let mid = c.answer-answer.new.self in
    let few = c.requires.working.equipped.rounds in
    let fits = lanes_fit g.row.L w c.requires.working in
    let lt : c.args.place < g.row.L = (let n = c.requires.working.equipped.prices_count in let l = c.requires.place in omega arith) in (
      lit< tt,
      (
        lt,
        (
          c.answer-answer.ensures.solved c.args.place c.requires.solved,
          λ d. (let m = c.requires.made d in
              let e = ap (λ (xs : List LanePrices). (slice_index_or xs c.args.place d).made) c.answer-answer.ensures.lanes in omega arith),
        ),
      ),
    )

pub returns-clause-next : goal.returns-clause-next
returns-clause-next g c =
    let w = c.args.self.now in
    let l = c.args.place in
    let mid = c.answer-answer.new.self in
    let fits = lanes_fit g.row.L w c.requires.working in
    let y : LaneFound = record { found = c.raise.new.self; stopped = c.index_mut.result.now.stopped } in
    let told : view c.raise-2.new.seat
    ≡ after_raise (after_lower (view w.seat) c.answer-answer.result.bound c.lower-2.result) c.answer-answer.result.value c.raise-2.result =
    c.raise-2.ensures.given ∙ ap (λ (v : SeatView). after_raise v c.answer-answer.result.value c.raise-2.result) c.lower-2.ensures.given in
    record {
      same = record { settings = refl; opening = refl; snapshot = c.advance.ensures.same_snapshot ∙ c.answer-answer.ensures.same_snapshot; share = refl };
      taken = refl;
      claims = ap (λ (v : SeatView). v.claims) told;
      lanes = λ d. subst (λ (p : Parts). IsLaneNow p l (slice_index_or w.steps.lanes l d).lane
          ((slice_index_or w.steps.lanes l d).made + 1) w.steps.lanes c.advance.new.self.lanes) c.answer-answer.ensures.same_snapshot
          (subst (λ (xs : List LanePrices). IsLaneNow mid.snapshot l (slice_index_or xs l d).lane
          ((slice_index_or xs l d).made + 1) xs c.advance.new.self.lanes) c.answer-answer.ensures.lanes (c.advance.ensures.next d));
      stopped = stopped_still w.lanes.items l y (omega arith)
          (ap (λ (z : LaneFound). z.stopped) (c.index_mut.ensures.value ∙ get_or_default w.lanes.items l c.index_mut.result.now y (omega arith)));
      solved = λ k other solved. c.advance.ensures.solved k other (c.answer-answer.ensures.solved k solved);
    }
