use Rattle.session.proofs.Undone.{undone_first, undone_memory, refused_line}
use Rattle.session.proofs.live.play.Goals as goal

pub returns-in_default-clause-live : goal.returns-in_default-clause-live
returns-in_default-clause-live g c = undone_first (g.S.Source.left c.args.source.now) (g.K.Sink.written c.args.sink.now)

pub returns-in-Ok-NoCaller-clause-live : goal.returns-in-Ok-NoCaller-clause-live
returns-in-Ok-NoCaller-clause-live g c =
    refused_line (g.S.Source.left c.args.source.now) (g.S.Source.left c.read_input.new.source) (g.K.Sink.written c.args.sink.now)
    (g.K.Sink.written c.write_refusal.new.sink) c.in-Ok-NoCaller.number c.write_refusal.result
    (rw c.in-Ok-NoCaller.field-0-is at c.in-Ok-NoCaller.ensures.input) c.write_refusal.ensures.written

pub returns-in-Err-clause-live : goal.returns-in-Err-clause-live
returns-in-Err-clause-live g c =
    undone_memory (g.S.Source.left c.args.source.now) (g.S.Source.left c.read_input.new.source) (g.K.Sink.written c.args.sink.now) c.in-Err.ensures.first
