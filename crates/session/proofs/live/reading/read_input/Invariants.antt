use Rattle.std.proofs.Common.{◌≡◌, ◌-◌, ◌≤◌, false}
use Rattle.session.proofs.Naming.{Naming}
use Rattle.session.proofs.live.reading.read_input.Given as goal

abbrev pub invariant-loop-reader : goal.invariant-loop-reader
invariant-loop-reader g l = record {
  naming : Naming (g.S.Source.left l.initial.source) (g.S.Source.left l.source) l.reader l.number l.book;
  steady : l.reader.failed ≡ false;
  reads : g.S.Source.faults l.initial.source ≤ g.S.Source.faults l.source;
}

abbrev pub decreases-loop-reader : goal.decreases-loop-reader
decreases-loop-reader g l = l.reader.most_lines - l.reader.answered
