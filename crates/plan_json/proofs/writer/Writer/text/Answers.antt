use Rattle.std.proofs.lemmas.Result.{IfOk-weaker}
use Rattle.serde_json.specs.View.{view}
use Rattle.plan_json.proofs.Order.{read_rises}
use Rattle.plan_json.proofs.Values.{both, data_of_text}
use Rattle.plan_json.proofs.writer.Writer.text.Goals as goal

pub returns-clause-byte_order : goal.returns-clause-byte_order
returns-clause-byte_order c =
    IfOk-weaker c.to_vec.result _ _ (λ bytes reads deep. read_rises bytes.items (view c.args.value.now) (reads deep)) c.to_vec.ensures.reads_back

pub returns-clause-reads_back : goal.returns-clause-reads_back
returns-clause-reads_back c =
    both _ _ _ (λ bytes utf8 reads deep. data_of_text bytes.items (view c.args.value.now) utf8 (reads deep)) c.to_vec.result c.to_vec.ensures.utf8
    c.to_vec.ensures.reads_back
