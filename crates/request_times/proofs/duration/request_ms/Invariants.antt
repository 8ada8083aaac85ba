-- The sum so far and that of the configurations that are left are the sum of all, and a configuration adds little.
use Rattle.std.proofs.Common.{◌≡◌, ◌+◌, ◌*◌, ◌≤◌, drop}
use Rattle.std.specs.Prelude.{sum_by}
use Rattle.request_times.specs.Duration.{configuration_ms}
use Rattle.request_times.proofs.duration.request_ms.Given as goal

abbrev pub invariant-loop-configuration : goal.invariant-loop-configuration
invariant-loop-configuration l =
    (l.sum + sum_by (configuration_ms l.instrument) (drop l.configuration-index l.configurations) ≡ l.instrument.front_ms
    + sum_by (configuration_ms l.instrument) l.configurations)
    × (l.sum ≤ 86400000 + l.configuration-index * 27650000000000) × (l.configuration-index ≤ l.sum)
