use Rattle.rapid.proofs.Inserting.{certified_each, snapshot_each, bound_each}
use Rattle.rapid.proofs.laws.insertions_are_certified.Goals as goal

pub returns-clause-snapshot : goal.returns-clause-snapshot
returns-clause-snapshot c = λ groups after each. snapshot_each c.args.rapid.now after groups each

pub returns-clause-certified : goal.returns-clause-certified
returns-clause-certified c = λ groups after each. certified_each c.args.rapid.now after groups c.claim.ensures.certified each

pub returns-clause-bound : goal.returns-clause-bound
returns-clause-bound c = λ groups after each bound is. bound_each c.args.rapid.now after groups bound c.claim.ensures.certified each is
