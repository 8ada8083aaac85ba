-- The document of a group, as it is written: the members of each object, in any order, since `object_of` puts them in
-- byte order.
use Rattle.std.specs.Prelude.{ℕ, List, [], ◌∷◌, codes, Option, Some, None, option_map, Result}
use Rattle.serde_json.specs.Data.{Data, string}
use Rattle.plan_base.specs.declared.span.Span.{Span}
use Rattle.plan_json.specs.declared.member.Member.TheVariants as member
use Rattle.plan_json.specs.Adds.{text_of}
use Rattle.plan_json.specs.Object.{document_of}
use Rattle.plan_json.specs.Operator.{operator_name}
use Rattle.plan_json.specs.Reading.{◌>>=◌}
use Rattle.plan_json.specs.Values.{whole, list_of, Named, given, given_if, object_of, above_0}
use Rattle.request_model.specs.declared.fault.GroupFault.{GroupFault}
use Rattle.request_model.specs.declared.group.GroupDoc.{GroupDoc}
use Rattle.request_model.specs.declared.group.ObsKind.{ObsKind}
use Rattle.request_model.specs.declared.group.ObsKind.TheVariants.{Normal, TimeCritical, RapidResponse}
use Rattle.request_model.specs.declared.request.Exposure.{Exposure}
use Rattle.request_model.specs.declared.request.ConfigDoc.{ConfigDoc}
use Rattle.request_model.specs.declared.request.Location.{Location}
use Rattle.request_model.specs.declared.request.Cadence.{Cadence}
use Rattle.request_model.specs.declared.request.When.{When}
use Rattle.request_model.specs.declared.request.When.TheVariants as when
use Rattle.request_model.specs.declared.request.RequestDoc.{RequestDoc}
use Rattle.request_model.specs.Fault.{in_group}
use Rattle.request_model.specs.Group.{group_of}

-- an object with `exposure_time_ms` and `exposure_count`
abbrev pub exposure_data : Exposure → Data
exposure_data e = object_of (given member.ExposureTimeMs (whole e.ms) ∷ given member.ExposureCount (whole e.count) ∷ [])

-- an object with the target's `name`
abbrev pub target_data : List ℕ → Data
target_data name = object_of (given member.Name (string name) ∷ [])

-- a configuration of a request of that instrument type
abbrev pub configuration_data : List ℕ → ConfigDoc → Data
configuration_data type c =
    object_of
    (given member.InstrumentType (string type)
    ∷ given member.Target (target_data c.target)
    ∷ given member.InstrumentConfigs (list_of exposure_data c.exposures)
    ∷ [])

-- an object with `telescope_class`, and with `site`, `enclosure` and `telescope` where they are named
abbrev pub location_data : Location → Data
location_data l =
    object_of
    (given member.TelescopeClass (string l.class)
    ∷ given_if member.Site (option_map string l.site)
    ∷ given_if member.Enclosure (option_map string l.enclosure)
    ∷ given_if member.Telescope (option_map string l.telescope)
    ∷ [])

-- an object with `start`, `end`, `period` and `jitter`, its moments as whole numbers of seconds
abbrev pub cadence_data : Cadence → Data
cadence_data c =
    object_of
    (given member.Start (whole c.start.0)
    ∷ given member.End (whole c.end.0)
    ∷ given member.Period (whole c.period)
    ∷ given member.Jitter (whole c.jitter)
    ∷ [])

-- an object with `start` and `end`, as whole numbers of seconds
abbrev pub window_data : Span → Data
window_data w = object_of (given member.Start (whole w.from.0) ∷ given member.End (whole w.to.0) ∷ [])

-- the cadence, where there is one
abbrev pub cadence_given : When → Option Data
cadence_given (when.Cadence c) = Some (cadence_data c)
cadence_given (when.Windows ws) = None

-- the windows, where there is no cadence
abbrev pub windows_given : When → Option Data
windows_given (when.Cadence c) = None
windows_given (when.Windows ws) = Some (list_of window_data ws)

-- A request with these times and this fade. It unfolds only where it is asked, so that each kind of times is apart from
-- the other.
unfoldable pub request_at : RequestDoc → When → Option ℕ → Data
request_at r times fade =
    object_of
    (given member.Location (location_data r.location)
    ∷ given_if member.Cadence (cadence_given times)
    ∷ given_if member.Windows (windows_given times)
    ∷ given member.Configurations (list_of (configuration_data r.instrument) r.configurations)
    ∷ given member.AcceptabilityThreshold (whole r.threshold)
    ∷ given_if member.Fade (option_map whole fade)
    ∷ [])

-- an object with `cadence` or `windows`, whichever the request has, and with `fade` where it is above 0
abbrev pub request_data : RequestDoc → Data
request_data r = request_at r r.when (above_0 r.fade)

-- the word that `observation_type` has for each account
abbrev pub kind_name : ObsKind → List ℕ
kind_name Normal = codes "NORMAL"
kind_name TimeCritical = codes "TIME_CRITICAL"
kind_name RapidResponse = codes "RAPID_RESPONSE"

-- the members of the document
abbrev pub group_members : GroupDoc → List Named
group_members g =
    given member.Name (string g.name)
    ∷ given member.Proposal (string g.proposal)
    ∷ given member.Operator (string (operator_name g.op))
    ∷ given member.ObservationType (string (kind_name g.kind))
    ∷ given member.IppThousandths (whole g.ipp)
    ∷ given member.Priority (whole g.priority)
    ∷ given member.Requests (list_of request_data g.requests)
    ∷ []

-- the document, as a value
abbrev pub group_data : GroupDoc → Data
group_data g = object_of (group_members g)

-- the text of the document
abbrev pub text_of_group : GroupDoc → List ℕ
text_of_group g = text_of (group_data g)

-- the group that the bytes are, or the first fault
abbrev pub group_of_bytes : List ℕ → Result GroupDoc GroupFault
group_of_bytes bytes = in_group (document_of bytes) >>= group_of
