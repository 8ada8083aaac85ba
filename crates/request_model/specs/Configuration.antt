-- What is taken of one target, and of which instrument type all configurations of a request are.
use Rattle.std.specs.Prelude.{ℕ, List, [], ◌∷◌, map, Bool, bytes_eq, if◌then◌else◌, Result, Ok, Err}
use Rattle.std.specs.List.{list_all}
use Rattle.plan_base.specs.Limits.{most_ms, most_configurations, most_exposures}
use Rattle.serde_json.specs.Data.{Data, Members}
use Rattle.plan_json.specs.declared.member.Member.{Member}
use Rattle.plan_json.specs.declared.member.Member.TheVariants.{Name, InstrumentType, Target, InstrumentConfigs, ExposureTimeMs, ExposureCount, Configurations}
use Rattle.plan_json.specs.declared.fault.JsonFault.{JsonFault}
use Rattle.plan_json.specs.Elements.{each_of}
use Rattle.plan_json.specs.Object.{member_of, object_in}
use Rattle.plan_json.specs.Reading.{◌>>=◌}
use Rattle.plan_json.specs.Text.{text_in}
use Rattle.plan_json.specs.Whole.{number_in}
use Rattle.request_model.specs.declared.fault.GroupFault.{GroupFault}
use Rattle.request_model.specs.declared.fault.GroupFault.TheVariants.{MixedInstruments}
use Rattle.request_model.specs.declared.request.Exposure.{Exposure}
use Rattle.request_model.specs.declared.read.configuration.Typed.{Typed}
use Rattle.request_model.specs.declared.read.configuration.OfOneType.{OfOneType}
use Rattle.request_model.specs.Fault.{in_group}

-- `exposure_time_ms`, `exposure_count`
abbrev pub exposure_of : Members → Result Exposure JsonFault
exposure_of ms =
    member_of (number_in 1 most_ms) ms ExposureTimeMs >>= λ time.
    member_of (number_in 1 most_exposures) ms ExposureCount >>= λ number.
    Ok (record { ms = time; count = number })

-- the exposures of one length that an object is
abbrev pub exposure_in : Member → Data → Result Exposure JsonFault
exposure_in m d = object_in m d >>= exposure_of

-- `instrument_type`, `target` with its `name`, `instrument_configs`
abbrev pub typed_of : Members → Result Typed JsonFault
typed_of ms =
    member_of text_in ms InstrumentType >>= λ type.
    member_of object_in ms Target >>= λ sky.
    member_of text_in sky Name >>= λ name.
    each_of exposure_in 1 most_configurations ms InstrumentConfigs >>= λ all.
    Ok (record { instrument = type; configuration = record { target = name; exposures = all } })

-- the configuration that an object is, with its instrument type
abbrev pub typed_in : Member → Data → Result Typed JsonFault
typed_in m d = object_in m d >>= typed_of

-- all configurations are of that instrument type
abbrev pub are_of_type : List ℕ → List Typed → Bool
are_of_type type ts = list_all (λ t. bytes_eq t.instrument type) ts

-- the configurations of the request at that place, if all are of the first one's instrument type
abbrev pub of_one_type : ℕ → List Typed → Result OfOneType GroupFault
of_one_type index [] = Err (MixedInstruments index)
of_one_type index (t ∷ ts) =
    if are_of_type t.instrument (t ∷ ts)
    then Ok (record { instrument = t.instrument; configurations = map (λ u. u.configuration) (t ∷ ts) })
    else Err (MixedInstruments index)

-- the configurations of the request at that place, all of one instrument type
abbrev pub configurations_of : ℕ → Members → Result OfOneType GroupFault
configurations_of index ms = in_group (each_of typed_in 1 most_configurations ms Configurations) >>= of_one_type index
