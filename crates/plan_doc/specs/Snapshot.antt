-- Which documents are snapshots, and what is the first fault of the others.
use Rattle.std.specs.Prelude.{ℕ, List, [], is_some, if◌then◌else◌, Option, Some, None, Result, Ok, Err}
use Rattle.serde_json.specs.Data.{Data, Members}
use Rattle.plan_base.specs.declared.number.TelescopeNo.{TelescopeNo}
use Rattle.plan_base.specs.declared.number.TargetNo.{TargetNo}
use Rattle.plan_base.specs.declared.span.Span.{Span}
use Rattle.plan_base.specs.declared.parts.TelescopePart.{TelescopePart}
use Rattle.plan_base.specs.declared.parts.Sky.{Sky}
use Rattle.plan_base.specs.declared.parts.RequestPart.{RequestPart}
use Rattle.plan_base.specs.declared.parts.GroupPart.{GroupPart}
use Rattle.plan_base.specs.declared.parts.Parts.{Parts}
use Rattle.plan_base.specs.declared.fault.SnapshotFault.{SnapshotFault}
use Rattle.plan_base.specs.Limits.{most_moment, most_seconds, most_value, most_slices, most_version, most_first, least_len, most_len, most_fade, most_number}
use Rattle.plan_base.specs.Snapshot.{fault_of}
use Rattle.plan_json.specs.declared.member.Member.{Member}
use Rattle.plan_json.specs.declared.member.Member.TheVariants as key
use Rattle.plan_json.specs.declared.fault.JsonFault.{JsonFault}
use Rattle.plan_json.specs.Object.{value_of, member_of, if_there, or_default, object_in}
use Rattle.plan_json.specs.Operator.{operator_in}
use Rattle.plan_json.specs.List.{list_of_count_in}
use Rattle.plan_json.specs.Reading.{result_map, ◌>>=◌}
use Rattle.plan_json.specs.Whole.{number_in}
use Rattle.plan_doc.specs.Limits.{most_items, highest_number, highest_quota}
use Rattle.plan_doc.specs.declared.fault.DocFault.{DocFault}
use Rattle.plan_doc.specs.Fault.{fault_of_snapshot, in_document}
use Rattle.plan_json.specs.Elements.{item, each_of}

-- the first moment, then the last; how they lie is judged with the whole snapshot
abbrev pub span_of : Member → List Data → Result Span JsonFault
span_of m ds =
    number_in 0 most_moment m (item ds 0) >>= λ from.
    number_in 0 most_moment m (item ds 1) >>= λ to.
    Ok (record { from = record { 0 = from }; to = record { 0 = to } })

-- `[from,to]`
abbrev pub span_in : Member → Data → Result Span JsonFault
span_in m d = list_of_count_in m 2 d >>= span_of m

-- the number of a telescope, 0 to 65,535; whether the snapshot has it is judged with the whole snapshot
abbrev pub telescope_number_in : Member → Data → Result TelescopeNo JsonFault
telescope_number_in m d = result_map (λ n. record { 0 = n }) (number_in 0 highest_number m d)

-- the number of a target, 0 to 65,535
abbrev pub target_number_in : Member → Data → Result TargetNo JsonFault
target_number_in m d = result_map (λ n. record { 0 = n }) (number_in 0 highest_number m d)

-- `site`, `usable`
abbrev pub telescope_of : Members → Result TelescopePart JsonFault
telescope_of ms =
    member_of (number_in 0 highest_number) ms key.Site >>= λ site.
    each_of span_in 0 most_items ms key.Usable >>= λ usable.
    Ok (record { site = record { 0 = site }; usable = usable })

-- the telescope that an object is, an element of the list that the member is
abbrev pub telescope_in : Member → Data → Result TelescopePart JsonFault
telescope_in m d = object_in m d >>= telescope_of

-- `target`, `site`, `spans`
abbrev pub sky_of : Members → Result Sky JsonFault
sky_of ms =
    member_of (number_in 0 highest_number) ms key.Target >>= λ target.
    member_of (number_in 0 highest_number) ms key.Site >>= λ site.
    each_of span_in 0 most_items ms key.Spans >>= λ spans.
    Ok (record { target = record { 0 = target }; site = record { 0 = site }; spans = spans })

-- the sky that an object is, an element of the list that the member is
abbrev pub sky_in : Member → Data → Result Sky JsonFault
sky_in m d = object_in m d >>= sky_of

-- `request`, `seconds`, `value`, `telescopes`, `targets`, `windows`, `fade`
abbrev pub request_of : Members → Result RequestPart JsonFault
request_of ms =
    member_of (number_in 0 most_number) ms key.Request >>= λ request.
    member_of (number_in 1 most_seconds) ms key.Seconds >>= λ seconds.
    member_of (number_in 1 most_value) ms key.Value >>= λ value.
    each_of telescope_number_in 0 most_items ms key.Telescopes >>= λ telescopes.
    each_of target_number_in 0 most_items ms key.Targets >>= λ targets.
    each_of span_in 0 most_items ms key.Windows >>= λ windows.
    or_default 0 (number_in 0 most_fade) ms key.Fade >>= λ fade.
    Ok (record {
      request = record { 0 = request };
      seconds = seconds;
      value = value;
      windows = windows;
      telescopes = telescopes;
      targets = targets;
      fade = fade;
    })

-- the request that an object is, an element of the list that the member is
abbrev pub request_in : Member → Data → Result RequestPart JsonFault
request_in m d = object_in m d >>= request_of

-- `group`, `operator`, `requests`, `quota`
abbrev pub group_of : Members → Result GroupPart JsonFault
group_of ms =
    member_of (number_in 0 most_number) ms key.Group >>= λ group.
    member_of operator_in ms key.Operator >>= λ op.
    each_of request_in 0 most_items ms key.Requests >>= λ requests.
    if_there (number_in 0 highest_number) ms key.Quota >>= λ quota.
    Ok (record { group = record { 0 = group }; op = op; requests = requests; quota = quota })

-- the group that an object is, an element of the list that the member is
abbrev pub group_in : Member → Data → Result GroupPart JsonFault
group_in m d = object_in m d >>= group_of

-- `quotas`, or none where it isn't there
abbrev pub quotas_of : Members → Result (List ℕ) JsonFault
quotas_of ms = if is_some (value_of ms key.Quotas) then each_of (number_in 0 highest_quota) 0 most_items ms key.Quotas else Ok []

-- `version`, `len`, `first`, `slices`, `telescopes`, `skies`, `groups`, `quotas`
abbrev pub parts_of : Members → Result Parts JsonFault
parts_of ms =
    member_of (number_in 0 most_version) ms key.Version >>= λ version.
    member_of (number_in least_len most_len) ms key.Len >>= λ len.
    member_of (number_in 0 most_first) ms key.First >>= λ first.
    member_of (number_in 1 most_slices) ms key.Slices >>= λ slices.
    each_of telescope_in 0 most_items ms key.Telescopes >>= λ telescopes.
    each_of sky_in 0 most_items ms key.Skies >>= λ skies.
    each_of group_in 0 most_items ms key.Groups >>= λ groups.
    quotas_of ms >>= λ quotas.
    Ok (record {
      version = version;
      len = len;
      first = record { 0 = first };
      slices = slices;
      telescopes = telescopes;
      skies = skies;
      groups = groups;
      quotas = quotas;
    })

-- the parts, where they have no fault
abbrev pub unless_fault : Option SnapshotFault → Parts → Result Parts DocFault
unless_fault None s = Ok s
unless_fault (Some fault) s = Err (fault_of_snapshot fault)

-- the parts that the document has, where they are a snapshot
abbrev pub snapshot_of : Members → Result Parts DocFault
snapshot_of ms = in_document (parts_of ms) >>= λ s. unless_fault (fault_of s) s
