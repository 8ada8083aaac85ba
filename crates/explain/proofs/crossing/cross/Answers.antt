use Rattle.explain.proofs.Gathering.{through_gains}
use Rattle.explain.proofs.crossing.cross.Goals as goal

pub detour_of-requires-clause-through : goal.detour_of-requires-clause-through
detour_of-requires-clause-through c =
    through_gains c.args.snapshot.now c.args.prices.now.0 c.args.telescope.0 c.args.openings.now.request.0 c.recall_valid.ensures.orderly
    c.gains_of-gains.result.starts c.gains_of-gains.result.greatest c.gains_of-gains.ensures.gains
