use Rattle.plan_base.proofs.OneRound.{one_repaired}
use Rattle.plan_base.proofs.Sizes.{start_size_above}
use Rattle.plan_base.proofs.unique.one_repaired_plan.Goals as goal

pub returns : goal.returns
returns c = λ xs ys h g. one_repaired c.args.snapshot.now c.args.prices.now.0 xs ys (start_size_above c.args.snapshot.now c.recall_valid.ensures.orderly) h g
