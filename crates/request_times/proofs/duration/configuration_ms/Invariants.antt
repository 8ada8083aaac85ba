-- The sum so far and that of the exposures that are left are the sum of all, and an exposure adds little.
use Rattle.std.proofs.Common.{◌≡◌, ◌+◌, ◌*◌, ◌≤◌, drop}
use Rattle.std.specs.Prelude.{sum_by}
use Rattle.request_times.specs.Duration.{exposure_ms}
use Rattle.request_times.proofs.duration.configuration_ms.Given as goal

abbrev pub invariant-loop-exposure : goal.invariant-loop-exposure
invariant-loop-exposure l =
    (l.sum + sum_by (exposure_ms l.instrument) (drop l.exposure-index l.exposures) ≡ l.instrument.config_ms + sum_by (exposure_ms l.instrument) l.exposures)
    × (l.sum ≤ 86400000 + l.exposure-index * 1728086400000) × (l.exposure-index ≤ l.sum)
