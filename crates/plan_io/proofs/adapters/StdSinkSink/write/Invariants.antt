use Rattle.std.proofs.Common.{◌≡◌}
use Rattle.std.specs.Io.KnownBytes.{Keeps}
use Rattle.plan_io.proofs.adapters.StdSinkSink.write.Given as goal

abbrev pub invariant-loop-call : goal.invariant-loop-call
invariant-loop-call g l = record {
  contents : Keeps (g.O.Write.contents l.initial.self.writer) (g.O.Write.contents l.self.writer);
  faults : l.self.faults ≡ l.initial.self.faults;
}
