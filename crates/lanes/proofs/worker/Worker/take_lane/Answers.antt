use Rattle.std.proofs.Common.{false, ◌≡◌, refl, sym, ap, subst, ◌∙◌, List, length, slice_index_or, arith}
use Rattle.std.proofs.lemmas.Grind.{common_steps}
use Rattle.std.proofs.lemmas.List.{length-set, get_or_default}
use Rattle.std.proofs.lemmas.List.Elements.{All-set}
use Rattle.board.specs.declared.seat.SeatView.{SeatView}
use Rattle.board.specs.Seats.{view}
use Rattle.lanes.specs.declared.worker.LaneFound.{LaneFound}
use Rattle.lanes.specs.declared.lane_prices.LanePrices.{LanePrices}
use Rattle.lanes.specs.Found.{FoundSeen, ArePrices, cleared}
use Rattle.lanes.proofs.Workers.{equipped_on, working_none_left, claimed_now, in_step_begun, lanes_fit}
use Rattle.lanes.proofs.worker.Worker.take_lane.Goals as goal

pub returns-then-number-from-clause-working : goal.returns-then-number-from-clause-working
returns-then-number-from-clause-working g c =
    working_none_left g.row.L c.args.self.now c.claim-number.new.seat c.claim-number.result c.requires.working c.claim-number.ensures.claimed (omega arith)

pub returns-then-number-from-clause-none_left : goal.returns-then-number-from-clause-none_left
returns-then-number-from-clause-none_left g c =
    λ none. (
      c.claim-number.result,
      (omega arith),
      claimed_now (view c.args.self.now.seat) (view c.claim-number.new.seat) c.claim-number.result c.claim-number.ensures.claimed,
    )

pub returns-clause-working : goal.returns-clause-working
returns-clause-working g c =
    let w = c.args.self.now in
    let s = w.steps.snapshot in
    let y : LaneFound = record { found = c.clear.new.self; stopped = false } in
    let fits = lanes_fit g.row.L w c.requires.working in
    let here = c.index_mut-lane.ensures.value ∙ get_or_default w.lanes.items w.taken c.index_mut-lane.result.now y (omega arith) in
    let found : y.found ≡ cleared (slice_index_or w.lanes.items w.taken y).found = c.clear.ensures ∙ ap (λ (z : LaneFound). cleared z.found) here in
    let prices : ArePrices s y.found.prices y.found.quota_prices = subst (λ (f : FoundSeen). ArePrices s f.prices f.quota_prices) (sym found)
    (c.requires.working.equipped.prices w.taken y (omega arith)) in
    record {
      equipped = equipped_on g.row.L w _ c.requires.working.equipped
          (record { settings = refl; opening = refl; snapshot = c.begin.ensures.same_snapshot; share = refl })
          (ap (λ (xs : List LanePrices). length xs) c.begin.ensures.begun.set ∙ length-set w.steps.lanes w.taken c.begin.ensures.begun.prices)
          (length-set w.lanes.items w.taken y)
          (All-set (λ z. ArePrices s z.found.prices z.found.quota_prices) w.lanes.items w.taken y prices c.requires.working.equipped.prices) (omega arith)
          (ap (λ (v : SeatView). v.seats) c.claim-number.ensures.claimed) (ap (λ (v : SeatView). v.tickets) c.claim-number.ensures.claimed);
      in_step = in_step_begun s c.begin.new.self.snapshot w.settings w.opening (view w.seat)
          (view c.claim-number.new.seat) w.found w.steps.lanes c.begin.new.self.lanes w.lanes.items w.taken
          c.claim-number.result y c.requires.working.in_step c.begin.ensures.same_snapshot c.claim-number.ensures.claimed
          c.claim-number.ensures.before (omega arith) (omega arith) (omega arith)
          c.begin.ensures.begun refl found c.requires.working.equipped.prices;
    }

pub returns-then-number-from-clause-more : goal.returns-then-number-from-clause-more
returns-then-number-from-clause-more g c = grind (arith, common_steps)

pub returns-clause-more : goal.returns-clause-more
returns-clause-more g c = grind (arith, common_steps)

pub returns-clause-few : goal.returns-clause-few
returns-clause-few g c = grind (arith, common_steps)
