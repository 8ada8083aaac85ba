use Rattle.std.proofs.Common.{◌≡◌, take}
use Rattle.desk_core.specs.Holds.{keys_in}
use Rattle.desk_core.proofs.holding.keys_in.Given as goal

abbrev pub invariant-loop-need : goal.invariant-loop-need
invariant-loop-need l = l.keys.keys ≡ keys_in (take l.need-index l.needs)
