-- A request.
use Rattle.std.specs.Prelude.{ℕ, Result, Ok}
use Rattle.plan_base.specs.Limits.{most_percent, most_fade}
use Rattle.serde_json.specs.Data.{Data, Members}
use Rattle.plan_json.specs.declared.member.Member.TheVariants.{Location, AcceptabilityThreshold, Fade, Requests}
use Rattle.plan_json.specs.Object.{member_of, object_in, or_default}
use Rattle.plan_json.specs.Reading.{◌>>=◌}
use Rattle.plan_json.specs.Whole.{number_in}
use Rattle.request_model.specs.declared.fault.GroupFault.{GroupFault}
use Rattle.request_model.specs.declared.request.RequestDoc.{RequestDoc}
use Rattle.request_model.specs.Fault.{in_group}
use Rattle.request_model.specs.Location.{location_of}
use Rattle.request_model.specs.When.{when_of}
use Rattle.request_model.specs.Configuration.{configurations_of}

-- `location`, `cadence` or `windows`, `configurations`, `acceptability_threshold`, `fade`
abbrev pub request_of : ℕ → Members → Result RequestDoc GroupFault
request_of index ms =
    in_group (member_of object_in ms Location >>= location_of) >>= λ place.
    when_of index ms >>= λ times.
    configurations_of index ms >>= λ all.
    in_group (or_default 90 (number_in 0 most_percent) ms AcceptabilityThreshold) >>= λ least.
    in_group (or_default 0 (number_in 0 most_fade) ms Fade) >>= λ lost.
    Ok (record {
      location = place;
      when = times;
      instrument = all.instrument;
      configurations = all.configurations;
      threshold = least;
      fade = lost;
    })

-- the request at that place
abbrev pub request_in : ℕ → Data → Result RequestDoc GroupFault
request_in index d = in_group (object_in Requests d) >>= request_of index
