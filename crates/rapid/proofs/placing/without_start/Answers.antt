use Rattle.rapid.proofs.Placed.{unplaced}
use Rattle.rapid.proofs.placing.without_start.Goals as goal

pub returns : goal.returns
returns c =
    unplaced c.args.snapshot.now c.args.plan.now c.args.request.0 c.recall_valid.ensures.orderly c.in_ok-listing.field-0 c.new.result
    c.in_ok-listing.ensures.rising c.requires.ready.feasible c.requires.none c.in_ok-listing.ensures.same c.new.ensures
