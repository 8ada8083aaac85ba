use Rattle.session.proofs.Passes.{Made}
use Rattle.session.proofs.live.passes.make_passes.Given as goal

abbrev pub invariant-loop-caller : goal.invariant-loop-caller
invariant-loop-caller l = Made l.desk l.root l.passes.items l.caller
