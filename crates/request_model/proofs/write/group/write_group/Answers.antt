use Rattle.std.proofs.lemmas.Result.{IfOk-weaker}
use Rattle.request_model.proofs.BackGroup.{bytes_back}
use Rattle.request_model.proofs.write.group.write_group.Goals as goal

pub returns-clause-reads_back : goal.returns-clause-reads_back
returns-clause-reads_back c =
    IfOk-weaker c.json_text.result _ _ (λ bytes read in_range. bytes_back bytes.items c.args.group.now read in_range) c.json_text.ensures.reads_back
