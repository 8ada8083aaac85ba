use Rattle.std.proofs.Common.{◌≡◌, map}
use Rattle.desk_core.specs.Asking.{seen_made}
use Rattle.desk_core.specs.Submitting.{wanted_of}
use Rattle.desk_core.proofs.submitting.wanted_for.Given as goal

abbrev pub invariant-loop-one : goal.invariant-loop-one
invariant-loop-one l = l.wanted.items ≡ map (wanted_of l.network.registry.targets l.document) (map seen_made l.yielded)
