use Rattle.plan_base.proofs.StartCounts.{one_start_count}
use Rattle.plan_base.proofs.unique.one_start_count.Goals as goal

pub returns : goal.returns
returns c = λ m n a b. one_start_count c.args.snapshot.now m n a b
