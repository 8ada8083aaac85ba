use Rattle.std.proofs.Common.{◌≡◌}
use Rattle.plan_tests.proofs.repair_tests.repairs.assert_runs.Given as goal

abbrev pub invariant-loop-row : goal.invariant-loop-row
invariant-loop-row g l = l.repairer.snapshot ≡ l.snapshot
