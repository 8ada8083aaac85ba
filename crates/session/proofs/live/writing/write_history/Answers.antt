use Rattle.session.proofs.Gathering.{answered, broken_off, partly_gathered}
use Rattle.session.proofs.live.writing.write_history.Goals as goal

pub returns-in-Ok-Done-clause-told : goal.returns-in-Ok-Done-clause-told
returns-in-Ok-Done-clause-told g c =
    answered c.args.book.now (g.K.Sink.written c.args.sink.now)
    (g.K.Sink.written c.write_entries.new.sink) c.in-Ok-Done.field-0 c.in-Ok-Done.field-0-is c.recall.ensures.book c.recall.ensures.state
    c.requires c.in-Ok-Done.ensures.told

pub returns-in-Ok-WriteFault-clause-told : goal.returns-in-Ok-WriteFault-clause-told
returns-in-Ok-WriteFault-clause-told g c =
    broken_off c.args.book.now (g.K.Sink.written c.args.sink.now)
    (g.K.Sink.written c.write_entries.new.sink) c.in-Ok-WriteFault.field-0 c.in-Ok-WriteFault.field-0-is c.recall.ensures.book
    c.recall.ensures.state c.requires c.in-Ok-WriteFault.ensures.told

pub returns-clause-told : goal.returns-clause-told
returns-clause-told g c =
    partly_gathered c.args.book.now (g.K.Sink.written c.args.sink.now) (g.K.Sink.written c.write_entries.new.sink)
    (g.K.Sink.written c.write_replies.new.sink) c.write_entries.new.replies.items
    c.write_replies.result c.recall.ensures.book c.recall.ensures.state c.requires c.in-Err.ensures.gathered c.write_replies.ensures.bytes
