use Rattle.std.proofs.Common.{◌≡◌, take}
use Rattle.desk_core.specs.Targets.{numbers_of}
use Rattle.desk_core.proofs.targets.numbers_of.Given as goal

abbrev pub invariant-loop-configuration : goal.invariant-loop-configuration
invariant-loop-configuration l = l.numbers.keys ≡ numbers_of l.network.registry.targets (take l.configuration-index l.configurations)
