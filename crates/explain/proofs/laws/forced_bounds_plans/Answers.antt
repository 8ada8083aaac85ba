use Rattle.explain.proofs.Excluding.{forced_bound, excluded}
use Rattle.explain.proofs.laws.forced_bounds_plans.Goals as goal

pub returns-clause-bound : goal.returns-clause-bound
returns-clause-bound c = λ r b plan forced with_r. forced_bound c.args.snapshot.now c.args.claim.now r b plan c.recall_valid.ensures.orderly
    c.requires.bound forced with_r

pub returns-clause-excluded : goal.returns-clause-excluded
returns-clause-excluded c = λ r forced value excludes. excluded c.args.snapshot.now c.args.claim.now r forced c.recall_valid.ensures.orderly
    c.requires.bound value excludes
