use Rattle.plan_base.proofs.OneVerdict.{one_verdict}
use Rattle.plan_base.proofs.unique.one_verdict.Goals as goal

pub returns : goal.returns
returns c = λ v w h g. one_verdict c.args.snapshot.now c.args.claim.now v w h g
