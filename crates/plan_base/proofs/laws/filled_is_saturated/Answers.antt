use Rattle.plan_base.proofs.Filled.{filled_feasible, filled_saturated}
use Rattle.plan_base.proofs.laws.filled_is_saturated.Goals as goal

pub returns-clause-feasible : goal.returns-clause-feasible
returns-clause-feasible c = λ plan after feasible filled. filled_feasible c.args.snapshot.now c.recall_valid.ensures.orderly plan after
    filled.0 feasible filled.1

pub returns-clause-saturated : goal.returns-clause-saturated
returns-clause-saturated c = λ plan after filled. filled_saturated c.args.snapshot.now c.recall_valid.ensures.orderly plan after filled.0 filled.1
