use Rattle.session.proofs.Gathering.{partly_none}
use Rattle.session.proofs.live.do_lines.Goals as goal

pub returns-in_default-clause-told : goal.returns-in_default-clause-told
returns-in_default-clause-told g c = partly_none c.args.book.scripts (g.K.Sink.written c.args.sink.now)
