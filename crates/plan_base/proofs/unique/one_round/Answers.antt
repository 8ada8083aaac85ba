use Rattle.plan_base.proofs.OneRound.{one_round}
use Rattle.plan_base.proofs.Sizes.{start_size_above}
use Rattle.plan_base.proofs.unique.one_round.Goals as goal

pub returns : goal.returns
returns c = λ lane round a u b v h g. one_round c.args.snapshot.now lane round a u b v (start_size_above c.args.snapshot.now c.recall_valid.ensures.orderly) h g
