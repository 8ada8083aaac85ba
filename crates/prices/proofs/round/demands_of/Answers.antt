use Rattle.prices.proofs.Setting.{zero_at}
use Rattle.prices.proofs.Walking.{few_quotas}
use Rattle.prices.proofs.round.demands_of.Goals as goal

pub add_demands-requires-clause-room : goal.add_demands-requires-clause-room
add_demands-requires-clause-room c = few_quotas c.args.snapshot.now c.recall_valid.ensures.orderly

pub add_demands-requires-clause-none : goal.add_demands-requires-clause-none
add_demands-requires-clause-none c = λ q. zero_at 1024 q

pub returns-clause-room : goal.returns-clause-room
returns-clause-room c = few_quotas c.args.snapshot.now c.recall_valid.ensures.orderly
