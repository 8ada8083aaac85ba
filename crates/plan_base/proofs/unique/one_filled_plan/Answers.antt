use Rattle.plan_base.proofs.OneFill.{one_filled}
use Rattle.plan_base.proofs.unique.one_filled_plan.Goals as goal

pub returns : goal.returns
returns c = λ plan xs ys h g. one_filled c.args.snapshot.now plan xs ys h g
