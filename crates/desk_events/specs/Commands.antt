-- The commands: for each the members after `do`, in the order in which they are read, with their kinds and ranges.
use Rattle.std.specs.Prelude.{is_some, if◌then◌else◌, Result, Ok}
use Rattle.plan_base.specs.Limits.{most_version, least_len, most_len, most_slices, most_quota, most_seconds, most_ms, most_number}
use Rattle.plan_base.specs.Limits.{most_lanes, most_rounds, most_workers, most_carried, most_grant, most_percent}
use Rattle.serde_json.specs.Data.{Members}
use Rattle.plan_base.specs.declared.number.GroupNo.{GroupNo}
use Rattle.plan_json.specs.declared.member.Member.TheVariants as member
use Rattle.plan_json.specs.declared.fault.JsonFault.{JsonFault}
use Rattle.plan_json.specs.Moment.{moment_in}
use Rattle.plan_json.specs.Elements.{each_of}
use Rattle.plan_json.specs.Object.{value_of, member_of, if_there, object_in}
use Rattle.plan_json.specs.Reading.{◌>>=◌}
use Rattle.plan_json.specs.Span.{span_in, spans_of}
use Rattle.plan_json.specs.Text.{text_in}
use Rattle.plan_json.specs.Whole.{number_in}
use Rattle.request_model.specs.declared.group.GroupDoc.{GroupDoc}
use Rattle.request_model.specs.declared.fault.GroupFault.{GroupFault}
use Rattle.request_model.specs.Fault.{in_group}
use Rattle.request_model.specs.Group.{group_of}
use Rattle.site_model.specs.declared.code.Scope.{Scope}
use Rattle.site_model.specs.declared.code.Scope.TheVariants as scope
use Rattle.desk_events.specs.declared.command.Command.{Command}
use Rattle.desk_events.specs.declared.command.Command.TheVariants as command
use Rattle.desk_events.specs.Account.{key_of}
use Rattle.plan_doc.specs.Claim.{claim_of}

-- `now`, `slice`, `horizon`, `semester`, `lanes`, `rounds`, `workers`, and `quota` where it is there
abbrev pub open_of : Members → Result Command JsonFault
open_of ms =
    member_of moment_in ms member.Now >>= λ now.
    member_of (number_in least_len most_len) ms member.Slice >>= λ slice.
    member_of (number_in 1 most_slices) ms member.Horizon >>= λ horizon.
    member_of span_in ms member.Semester >>= λ semester.
    member_of (number_in 1 most_lanes) ms member.Lanes >>= λ lanes.
    member_of (number_in 1 most_rounds) ms member.Rounds >>= λ rounds.
    member_of (number_in 1 most_workers) ms member.Workers >>= λ workers.
    if_there (number_in 1 most_quota) ms member.Quota >>= λ quota.
    Ok (command.Open now slice horizon semester lanes rounds workers quota)

-- `type`, and in milliseconds `front_ms`, `config_ms`, `readout_ms`, `change_ms`
abbrev pub instrument_of : Members → Result Command JsonFault
instrument_of ms =
    member_of text_in ms member.TypeName >>= λ name.
    member_of (number_in 0 most_ms) ms member.FrontMs >>= λ front.
    member_of (number_in 0 most_ms) ms member.ConfigMs >>= λ config.
    member_of (number_in 0 most_ms) ms member.ReadoutMs >>= λ readout.
    member_of (number_in 0 most_ms) ms member.ChangeMs >>= λ change.
    Ok (command.Instrument name front config readout change)

-- `site`, `enclosure`, `telescope`, `class`, `instruments`, a list of 1 to 16 texts
abbrev pub telescope_of : Members → Result Command JsonFault
telescope_of ms =
    member_of text_in ms member.Site >>= λ site.
    member_of text_in ms member.Enclosure >>= λ enclosure.
    member_of text_in ms member.Telescope >>= λ telescope.
    member_of text_in ms member.Class >>= λ class.
    each_of text_in 1 most_carried ms member.Instruments >>= λ instruments.
    Ok (command.Telescope site enclosure telescope class instruments)

-- `site`, `spans`
abbrev pub night_of : Members → Result Command JsonFault
night_of ms =
    member_of text_in ms member.Site >>= λ site.
    spans_of ms member.Spans >>= λ spans.
    Ok (command.Night site spans)

-- `target`, `site`, `spans`
abbrev pub visibility_of : Members → Result Command JsonFault
visibility_of ms =
    member_of text_in ms member.Target >>= λ target.
    member_of text_in ms member.Site >>= λ site.
    spans_of ms member.Spans >>= λ spans.
    Ok (command.Visibility target site spans)

-- `telescope`, `site`, `enclosure`
abbrev pub telescope_scope_of : Members → Result Scope JsonFault
telescope_scope_of ms =
    member_of text_in ms member.Telescope >>= λ telescope.
    member_of text_in ms member.Site >>= λ site.
    member_of text_in ms member.Enclosure >>= λ enclosure.
    Ok (scope.Telescope (record { site = site; enclosure = enclosure; telescope = telescope }))

-- `site`
abbrev pub site_scope_of : Members → Result Scope JsonFault
site_scope_of ms = member_of text_in ms member.Site >>= λ site. Ok (scope.Site site)

-- the one telescope where `telescope` is there, else the site
abbrev pub scope_of : Members → Result Scope JsonFault
scope_of ms = if is_some (value_of ms member.Telescope) then telescope_scope_of ms else site_scope_of ms

-- the telescope or the site that is closed, then `spans`
abbrev pub close_of : Members → Result Command JsonFault
close_of ms =
    scope_of ms >>= λ scope.
    spans_of ms member.Spans >>= λ spans.
    Ok (command.Close scope spans)

-- the telescope or the site that is reopened, then `spans`
abbrev pub reopen_of : Members → Result Command JsonFault
reopen_of ms =
    scope_of ms >>= λ scope.
    spans_of ms member.Spans >>= λ spans.
    Ok (command.Reopen scope spans)

-- `proposal`, `account`, `instrument_type` unless the account is `ipp`, `seconds`
abbrev pub grant_of : Members → Result Command JsonFault
grant_of ms =
    key_of ms >>= λ key.
    member_of (number_in 1 most_grant) ms member.Seconds >>= λ seconds.
    Ok (command.Grant key seconds)

-- `group`: a request group
abbrev pub document_in : Members → Result GroupDoc GroupFault
document_in ms = in_group (member_of object_in ms member.Group) >>= group_of

-- `group`, whose fault may be one of the group's shape, windows or instrument types too
abbrev pub submit_of : Members → Result Command GroupFault
submit_of ms = document_in ms >>= λ group. Ok (command.Submit group)

-- `group_number`, whether or not a group has it
abbrev pub group_number_of : Members → Result GroupNo JsonFault
group_number_of ms = member_of (number_in 0 most_number) ms member.GroupNumber >>= λ n. Ok (record { 0 = n })

-- `group_number`, that of the group to be replaced, then `group`, the one in its place
abbrev pub amend_of : Members → Result Command GroupFault
amend_of ms =
    in_group (group_number_of ms) >>= λ old.
    document_in ms >>= λ group.
    Ok (command.Amend old group)

-- `group_number`
abbrev pub withdraw_of : Members → Result Command JsonFault
withdraw_of ms = group_number_of ms >>= λ group. Ok (command.Withdraw group)

-- `at`
abbrev pub clock_of : Members → Result Command JsonFault
clock_of ms = member_of moment_in ms member.At >>= λ at. Ok (command.Clock at)

-- `request`, by its number, `percent`, and `used` in seconds
abbrev pub report_of : Members → Result Command JsonFault
report_of ms =
    member_of (number_in 0 most_number) ms member.Request >>= λ request.
    member_of (number_in 0 most_percent) ms member.Percent >>= λ percent.
    member_of (number_in 0 most_seconds) ms member.Used >>= λ used.
    Ok (command.Report (record { 0 = request }) percent used)

-- `version`, `claim`
abbrev pub publish_of : Members → Result Command JsonFault
publish_of ms =
    member_of (number_in 0 most_version) ms member.Version >>= λ version.
    member_of object_in ms member.Claim >>= λ inner.
    claim_of inner >>= λ claim.
    Ok (command.Publish version claim)

-- `group_number`
abbrev pub show_of : Members → Result Command JsonFault
show_of ms = group_number_of ms >>= λ group. Ok (command.Show group)
