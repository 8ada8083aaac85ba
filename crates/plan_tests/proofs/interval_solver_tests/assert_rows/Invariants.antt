use Rattle.std.proofs.Common.{◌≡◌}
use Rattle.plan_tests.proofs.interval_solver_tests.assert_rows.Given as goal

abbrev pub invariant-loop-row : goal.invariant-loop-row
invariant-loop-row g l = l.solver.snapshot ≡ l.snapshot
