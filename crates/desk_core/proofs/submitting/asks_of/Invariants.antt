use Rattle.std.proofs.Common.{◌≡◌, map, take}
use Rattle.desk_core.specs.Asking.{seen_made}
use Rattle.desk_core.specs.Submitting.{asks_of}
use Rattle.desk_core.proofs.submitting.asks_of.Given as goal

abbrev pub invariant-loop-one : goal.invariant-loop-one
invariant-loop-one l = l.asks.items ≡ asks_of (map seen_made (take l.one-index l.made))
