use Rattle.session.proofs.Told.{told}
use Rattle.session.proofs.run.run_workload.Goals as goal

pub returns-in-Ok-clause-written : goal.returns-in-Ok-clause-written
returns-in-Ok-clause-written g c =
    told c.args.number (g.K.Sink.written c.args.sink.now) (g.K.Sink.written c.write_summary.new.sink) c.in-Ok.text.items c.as_slice.result.now
    c.write_summary.result c.in-Ok.ensures c.as_slice.ensures.value
    c.write_summary.ensures.written
