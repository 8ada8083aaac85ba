use Rattle.std.proofs.Common.{◌≡◌, map}
use Rattle.desk_core.specs.Holds.{held_for}
use Rattle.desk_core.proofs.holding.holds_of.Given as goal

abbrev pub invariant-loop-key : goal.invariant-loop-key
invariant-loop-key l = l.holds.items ≡ map (λ key. record { key = key; seconds = held_for l.op l.needs key }) l.yielded
