use Rattle.plan_base.proofs.OneRound.{one_use}
use Rattle.plan_base.proofs.Sizes.{start_size_above}
use Rattle.plan_base.proofs.unique.one_canonical_use.Goals as goal

pub returns : goal.returns
returns c = λ t xs ys h g. one_use c.args.snapshot.now c.args.prices.now.0 t xs ys (start_size_above c.args.snapshot.now c.recall_valid.ensures.orderly) h g
