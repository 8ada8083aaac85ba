use Rattle.std.proofs.lemmas.Result.{IfOk-weaker}
use Rattle.plan_doc.proofs.BackSnapshot.{snapshot_bytes_back}
use Rattle.plan_doc.proofs.write.snapshot.write_snapshot.Goals as goal

pub returns-clause-reads_back : goal.returns-clause-reads_back
returns-clause-reads_back c =
    IfOk-weaker c.json_text.result _ _
    (λ bytes read in_range. snapshot_bytes_back bytes.items c.args.snapshot.now read c.recall_valid.ensures.valid in_range)
    c.json_text.ensures.reads_back

pub returns-clause-exact : goal.returns-clause-exact
returns-clause-exact c = IfOk-weaker c.json_text.result _ _ (λ bytes written. written.exact) c.json_text.ensures.written
