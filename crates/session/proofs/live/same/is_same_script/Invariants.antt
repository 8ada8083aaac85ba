use Rattle.desk_core.specs.History.{script_of}
use Rattle.session.proofs.Passes.{AgreeUpTo}
use Rattle.session.proofs.live.same.is_same_script.Given as goal

abbrev pub invariant-loop-index : goal.invariant-loop-index
invariant-loop-index l = AgreeUpTo l.index (script_of l.a.scripts l.caller) (script_of l.b.scripts l.caller)
