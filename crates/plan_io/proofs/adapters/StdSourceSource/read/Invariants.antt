use Rattle.std.proofs.Common.{◌≡◌, length}
use Rattle.std.specs.Io.KnownBytes.{Keeps}
use Rattle.plan_io.proofs.adapters.StdSourceSource.read.Given as goal

abbrev pub invariant-loop-call : goal.invariant-loop-call
invariant-loop-call g l = record {
  left : Keeps (g.I.Read.remaining l.initial.self.reader) (g.I.Read.remaining l.self.reader);
  faults : l.self.faults ≡ l.initial.self.faults;
  room : length l.room ≡ length l.initial.room;
}
