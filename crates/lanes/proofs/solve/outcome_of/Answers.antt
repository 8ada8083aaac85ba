use Rattle.std.proofs.Common.{refl, length}
use Rattle.snapshot_starts.specs.Runs.{AreAllStarts}
use Rattle.lanes.proofs.solve.outcome_of.Goals as goal

pub returns-in_ok-claim-in-Ok-clause-outcome : goal.returns-in_ok-claim-in-Ok-clause-outcome
returns-in_ok-claim-in-Ok-clause-outcome g c =
    let starts = c.starts.result.now in
    let all : AreAllStarts c.args.taken.now.snapshot starts = c.starts.ensures.all c.args.taken.now.snapshot c.in-Ok.ensures.ok in
    (c.in_ok-claim-in-Ok.ensures, (length starts, (starts, all.all, refl), c.starts.ensures.few))
