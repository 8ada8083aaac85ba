use Rattle.std.proofs.Common.{◌≡◌, take}
use Rattle.desk_core.specs.Targets.{names_of, all_numbered, with_targets}
use Rattle.desk_core.proofs.targets.number_each.Given as goal

abbrev pub invariant-loop-configuration : goal.invariant-loop-configuration
invariant-loop-configuration l =
    l.network ≡ with_targets (all_numbered l.initial.network.registry.targets (names_of (take l.configuration-index l.configurations))) l.initial.network
