-- Where a request may be observed.
use Rattle.std.specs.Prelude.{Result, Ok}
use Rattle.serde_json.specs.Data.{Members}
use Rattle.plan_json.specs.declared.member.Member.TheVariants.{TelescopeClass, Site, Enclosure, Telescope}
use Rattle.plan_json.specs.declared.fault.JsonFault.{JsonFault}
use Rattle.plan_json.specs.Object.{member_of, if_there}
use Rattle.plan_json.specs.Text.{text_in}
use Rattle.plan_json.specs.Reading.{◌>>=◌}
use Rattle.request_model.specs.declared.request.Location.{Location}

-- `telescope_class`, and where they are there `site`, `enclosure`, `telescope`
abbrev pub location_of : Members → Result Location JsonFault
location_of ms =
    member_of text_in ms TelescopeClass >>= λ class.
    if_there text_in ms Site >>= λ site.
    if_there text_in ms Enclosure >>= λ enclosure.
    if_there text_in ms Telescope >>= λ telescope.
    Ok (record { class = class; site = site; enclosure = enclosure; telescope = telescope })
