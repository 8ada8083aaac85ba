use Rattle.std.proofs.Common.{◌≤◌}
use Rattle.session.proofs.Gathering.{Gathered}
use Rattle.session.proofs.live.writing.write_entries.Given as goal

abbrev pub invariant-loop-index : goal.invariant-loop-index
invariant-loop-index g l = record {
  gathered : Gathered (g.K.Sink.written l.initial.sink) (g.K.Sink.written l.sink) l.book.history l.index l.replies.items;
  writes : g.K.Sink.faults l.initial.sink ≤ g.K.Sink.faults l.sink;
}
