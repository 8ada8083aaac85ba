use Rattle.std.proofs.Common.{◌≡◌, map}
use Rattle.desk_core.specs.Asking.{seen_made, made_with}
use Rattle.desk_core.proofs.asking.made_with.Given as goal

abbrev pub invariant-loop-windows : goal.invariant-loop-windows
invariant-loop-windows l = map seen_made l.made.items ≡ made_with l.asked l.seconds l.yielded
