use Rattle.std.proofs.Common.{◌≡◌, ◌-◌, ◌≤◌, false}
use Rattle.session.proofs.Going.{Going}
use Rattle.session.proofs.run.answer_lines.Given as goal

abbrev pub invariant-loop-cache : goal.invariant-loop-cache
invariant-loop-cache g l = record {
  going : Going (g.S.Source.left l.initial.source) (g.S.Source.left l.source) (g.K.Sink.written l.initial.sink)
      (g.K.Sink.written l.sink) l.reader l.replies.items l.done l.state;
  steady : l.reader.failed ≡ false;
  reads : g.S.Source.faults l.initial.source ≤ g.S.Source.faults l.source;
  writes : g.K.Sink.faults l.initial.sink ≤ g.K.Sink.faults l.sink;
}

abbrev pub decreases-loop-cache : goal.decreases-loop-cache
decreases-loop-cache g l = l.reader.most_lines - l.reader.answered
