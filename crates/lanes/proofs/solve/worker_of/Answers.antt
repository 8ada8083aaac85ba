use Rattle.std.proofs.Common.{◌≡◌, refl, sym, ap, subst, ◌∙◌, arith, All}
use Rattle.plan_base.specs.declared.parts.Parts.{Parts}
use Rattle.plan_base.specs.Snapshot.{IsOrderly}
use Rattle.board.specs.Seats.{view}
use Rattle.lanes.specs.Found.{nothing, ArePrices}
use Rattle.lanes.proofs.Starting.{in_step_new}
use Rattle.lanes.proofs.solve.worker_of.Goals as goal

pub returns-clause-new : goal.returns-clause-new
returns-clause-new g c =
    let s = c.args.taken.now.snapshot in
    let settings = c.args.taken.now.settings in
    let same : c.in_ok-steps.steps.snapshot ≡ s = c.in_ok-steps.ensures.snapshot in
    let lanes = c.requires.lanes in
    let share = c.share_of.ensures in
    let least = c.min.ensures in
    record {
      working = record {
        equipped = record {
          orderly = subst IsOrderly (sym same) c.recall_valid.ensures.orderly;
          rounds = c.requires.settings.few_rounds;
          lanes = c.requires.settings.few_lanes;
          prices_count = c.in_ok-steps.ensures.lanes;
          founds_count = c.in_ok-lanes.ensures.count;
          some = omega arith;
          share = omega arith;
          room = lanes.1;
          taken = omega arith;
          prices = subst (λ (p : Parts). All (λ y. ArePrices p y.found.prices y.found.quota_prices) c.in_ok-lanes.lanes.items)
              (sym same) c.in_ok-lanes.ensures.prices;
          seats = c.requires.parts.0;
          no_tickets = c.requires.parts.1;
        };
        in_step = in_step_new c.in_ok-steps.steps.snapshot settings c.args.value (view c.args.seat) c.in_ok-found.found
            (c.in_ok-found.ensures ∙ ap (λ (p : Parts). nothing p c.args.value) (sym same)) c.requires.unused;
      };
      none = refl;
      claims = c.requires.unused.claims;
      snapshot = same;
      settings = refl;
      opening = refl;
    }
