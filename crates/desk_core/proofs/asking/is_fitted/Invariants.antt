use Rattle.std.proofs.Common.{◌≡◌, false, take}
use Rattle.std.specs.List.{list_any}
use Rattle.desk_core.specs.Asking.{is_fit}
use Rattle.desk_core.proofs.asking.is_fitted.Given as goal

abbrev pub invariant-loop-telescope : goal.invariant-loop-telescope
invariant-loop-telescope l = list_any (is_fit l.request.location l.request.instrument) (take l.telescope l.network.registry.telescopes) ≡ false
