use Rattle.std.proofs.Common.{◌≡◌, length, All}
use Rattle.lanes.specs.Ready.{IsEmpty}
use Rattle.lanes.proofs.steps.uses_of.Given as goal

abbrev pub invariant-loop : goal.invariant-loop
invariant-loop l = record { count : length l.uses.items ≡ l.counter; empty : All (IsEmpty l.snapshot) l.uses.items }
