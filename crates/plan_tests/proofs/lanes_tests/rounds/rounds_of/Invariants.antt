use Rattle.std.proofs.Common.{◌≡◌}
use Rattle.plan_tests.proofs.lanes_tests.rounds.rounds_of.Given as goal

abbrev pub invariant-loop : goal.invariant-loop
invariant-loop l = l.lane.made ≡ l.counter
