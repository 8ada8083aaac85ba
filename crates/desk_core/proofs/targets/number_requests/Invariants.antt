use Rattle.std.proofs.Common.{◌≡◌, take}
use Rattle.desk_core.specs.Targets.{target_names, all_numbered, with_targets}
use Rattle.desk_core.proofs.targets.number_requests.Given as goal

abbrev pub invariant-loop-request : goal.invariant-loop-request
invariant-loop-request l =
    l.network ≡ with_targets (all_numbered l.initial.network.registry.targets (target_names (take l.request-index l.requests))) l.initial.network
