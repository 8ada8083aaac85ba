use Rattle.session.proofs.Passes.{Calling}
use Rattle.session.proofs.live.passes.call_lines.Given as goal

abbrev pub invariant-loop-index : goal.invariant-loop-index
invariant-loop-index g l = Calling l.desk l.fn.pass l.index l.pass
