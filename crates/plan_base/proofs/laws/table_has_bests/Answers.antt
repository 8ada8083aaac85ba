use Rattle.plan_base.proofs.Tables.{table_best}
use Rattle.plan_base.proofs.laws.table_has_bests.Goals as goal

pub returns : goal.returns
returns c = λ t table is_table k from to. table_best c.args.snapshot.now c.args.prices.now.0 t c.recall_valid.ensures.orderly table is_table k from to
