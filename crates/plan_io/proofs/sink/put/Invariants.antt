use Rattle.std.proofs.Common.{◌-◌, ◌≤◌, length, take}
use Rattle.plan_io.specs.Sink.{Adds}
use Rattle.plan_io.proofs.sink.put.Given as goal

abbrev pub invariant-loop-done : goal.invariant-loop-done
invariant-loop-done g l = record {
  within : l.done ≤ length l.piece;
  written : Adds (g.K.Sink.written l.initial.sink) (g.K.Sink.written l.sink) (take l.done l.piece);
  later : g.K.Sink.faults l.initial.sink ≤ g.K.Sink.faults l.sink;
}

abbrev pub decreases-loop-done : goal.decreases-loop-done
decreases-loop-done g l = length l.initial.piece - l.done
