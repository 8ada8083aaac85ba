-- How long a request takes on an instrument.
use Rattle.plan_base.specs.Limits.{most_seconds, most_ms}
use Rattle.std.specs.Prelude.{ℕ, ◌+◌, ◌*◌, ◌≤◌, nat_le, List, sum_by, Result, Ok, Err, if◌then◌else◌}
use Rattle.std.specs.Int.{div_ceil}
use Rattle.request_model.specs.declared.request.Exposure.{Exposure}
use Rattle.request_model.specs.declared.request.ConfigDoc.{ConfigDoc}
use Rattle.request_times.specs.declared.instrument.Instrument.{Instrument}
use Rattle.request_model.specs.declared.time_fault.TimeFault.{TimeFault}
use Rattle.request_model.specs.declared.time_fault.TimeFault.TheVariants.{TooLong}

-- the milliseconds of exposures of one length: each with its readout, and one change for all of them
abbrev pub exposure_ms : Instrument → Exposure → ℕ
exposure_ms instrument e = e.count * (e.ms + instrument.readout_ms) + instrument.change_ms

-- the milliseconds of a configuration, with its padding
abbrev pub configuration_ms : Instrument → ConfigDoc → ℕ
configuration_ms instrument c = instrument.config_ms + sum_by (exposure_ms instrument) c.exposures

-- the milliseconds of all configurations, with the padding before them
abbrev pub request_ms : Instrument → List ConfigDoc → ℕ
request_ms instrument configurations = instrument.front_ms + sum_by (configuration_ms instrument) configurations

-- the whole seconds of a request, rounded up once
abbrev pub request_seconds : Instrument → List ConfigDoc → ℕ
request_seconds instrument configurations = div_ceil (request_ms instrument configurations) 1000

-- the duration of a request: it takes a day at most
abbrev pub duration : Instrument → List ConfigDoc → Result ℕ TimeFault
duration instrument configurations =
    if nat_le (request_seconds instrument configurations) most_seconds
    then Ok (request_seconds instrument configurations)
    else Err (TooLong (request_seconds instrument configurations))

-- the overheads are a day at most
pub record IsOverhead (instrument : Instrument) : Type 0 where
  pub front : instrument.front_ms ≤ most_ms
  pub config : instrument.config_ms ≤ most_ms
  pub readout : instrument.readout_ms ≤ most_ms
  pub change : instrument.change_ms ≤ most_ms
