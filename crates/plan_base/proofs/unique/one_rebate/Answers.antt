use Rattle.plan_base.proofs.Single.{one_rebate}
use Rattle.plan_base.proofs.unique.one_rebate.Goals as goal

pub returns : goal.returns
returns c = λ p g a b h k. one_rebate c.args.snapshot.now p g a b h k
