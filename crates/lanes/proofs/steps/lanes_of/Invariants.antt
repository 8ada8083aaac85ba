use Rattle.std.proofs.Common.{◌≡◌, length, All}
use Rattle.lanes.specs.Rounds.{IsLane}
use Rattle.lanes.proofs.steps.lanes_of.Given as goal

abbrev pub invariant-loop : goal.invariant-loop
invariant-loop l = record { count : length l.lanes.items ≡ l.counter; lanes : All (IsLane l.snapshot) l.lanes.items }
