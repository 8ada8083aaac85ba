use Rattle.std.proofs.Common.{◌≡◌}
use Rattle.desk_passes.specs.Calls.{view}
use Rattle.session_tests.specs.Passes.{IsReady}
use Rattle.session_tests.proofs.two_passes.opens.Given as goal

abbrev pub invariant-loop-lines : goal.invariant-loop-lines
invariant-loop-lines g l = IsReady l.desk l.lines l.pass × ((view l.pass).caller ≡ (view l.fn.pass).caller)
