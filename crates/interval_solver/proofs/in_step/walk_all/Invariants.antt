use Rattle.interval_solver.proofs.Stepping.{IsWalkedTo}
use Rattle.interval_solver.proofs.in_step.walk_all.Given as goal

abbrev pub invariant-loop-place : goal.invariant-loop-place
invariant-loop-place g l = IsWalkedTo l.snapshot l.telescope.0 l.place l.prices l.fn.uses l.uses
