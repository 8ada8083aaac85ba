use Rattle.session.proofs.Going.{cut_by_memory}
use Rattle.session.proofs.run.play.Goals as goal

pub returns-clause-session : goal.returns-clause-session
returns-clause-session g c =
    cut_by_memory (g.S.Source.left c.args.source.now) (g.S.Source.left c.answer_lines.new.source) (g.K.Sink.written c.args.sink.now)
    (g.K.Sink.written c.answer_lines.new.sink) (g.K.Sink.written c.write_replies.new.sink) c.answer_lines.new.replies.items
    c.write_replies.result c.in-Err.ensures.gathered c.write_replies.ensures.bytes
