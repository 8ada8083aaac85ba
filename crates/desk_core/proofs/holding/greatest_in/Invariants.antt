use Rattle.std.proofs.Common.{◌≡◌, take}
use Rattle.desk_core.specs.Holds.{greatest_in}
use Rattle.desk_core.proofs.holding.greatest_in.Given as goal

abbrev pub invariant-loop-need : goal.invariant-loop-need
invariant-loop-need l = l.most ≡ greatest_in l.key (take l.need-index l.needs)
