use Rattle.std.proofs.Common.{◌≡◌, take}
use Rattle.desk_runs.specs.Clock.{numbers_in}
use Rattle.desk_runs.proofs.turn.numbers_in.Given as goal

abbrev pub invariant-loop-observation : goal.invariant-loop-observation
invariant-loop-observation l = l.numbers.keys ≡ numbers_in (take l.observation-index l.observations)
