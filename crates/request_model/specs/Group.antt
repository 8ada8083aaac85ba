-- Which documents are request groups, and what is the first fault of the others.
use Rattle.std.specs.Prelude.{ℕ, ◌==◌, List, length, Bool, bytes_eq, codes, is_some, if◌then◌else◌, Option, Some, None, ok_or, Result, Ok, Err}
use Rattle.std.specs.Int.{is_in_range}
use Rattle.plan_base.specs.Limits.{most_asked, least_ipp, most_ipp, most_priority}
use Rattle.serde_json.specs.Data.{Data, Members}
use Rattle.plan_base.specs.declared.parts.Op.{Op}
use Rattle.plan_base.specs.declared.parts.Op.TheVariants.{Single, Many, OneOf, And}
use Rattle.plan_json.specs.declared.member.Member.TheVariants as member
use Rattle.plan_json.specs.declared.fault.JsonFault.{JsonFault}
use Rattle.plan_json.specs.declared.fault.JsonFault.TheVariants.{Missing, OutOfRange}
use Rattle.plan_json.specs.Object.{value_of, member_of, or_default}
use Rattle.plan_json.specs.Operator.{operator_in}
use Rattle.plan_json.specs.Text.{text_in}
use Rattle.plan_json.specs.List.{list_in}
use Rattle.plan_json.specs.Reading.{◌>>=◌, read_from}
use Rattle.plan_json.specs.Whole.{number_in}
use Rattle.request_model.specs.declared.fault.GroupFault.{GroupFault}
use Rattle.request_model.specs.declared.fault.GroupFault.TheVariants.{BadShape}
use Rattle.request_model.specs.declared.group.ObsKind.{ObsKind}
use Rattle.request_model.specs.declared.group.ObsKind.TheVariants.{Normal, TimeCritical, RapidResponse}
use Rattle.request_model.specs.declared.group.GroupDoc.{GroupDoc}
use Rattle.request_model.specs.declared.request.RequestDoc.{RequestDoc}
use Rattle.request_model.specs.Fault.{in_group}
use Rattle.request_model.specs.Request.{request_in}

-- the observation type with that name
abbrev pub kind_named : List ℕ → Option ObsKind
kind_named s =
    if bytes_eq s (codes "NORMAL") then Some Normal
    else (if bytes_eq s (codes "TIME_CRITICAL") then Some TimeCritical
    else (if bytes_eq s (codes "RAPID_RESPONSE") then Some RapidResponse
    else None))

-- `observation_type`: `NORMAL`, `TIME_CRITICAL` or `RAPID_RESPONSE`; any other text is out of range
abbrev pub kind_of : Members → Result ObsKind JsonFault
kind_of ms = member_of text_in ms member.ObservationType >>= λ s. ok_or (kind_named s) (OutOfRange member.ObservationType)

-- the intra-proposal priority: `ipp_thousandths`, or else 1000; but it is missing where the portal's own member `ipp_value` is there
abbrev pub ipp_of : Members → Result ℕ JsonFault
ipp_of ms =
    if is_some (value_of ms member.IppThousandths)
    then member_of (number_in least_ipp most_ipp) ms member.IppThousandths
    else (if is_some (value_of ms member.IppValue) then Err (Missing member.IppThousandths) else Ok 1000)

-- the most elements that a list of requests may have for its shape to be looked at
abbrev pub most_counted : ℕ
most_counted = 1024

-- a `SINGLE` has one request, the others have 2 to 32
abbrev pub is_shape : Op → ℕ → Bool
is_shape Single n = n == 1
is_shape Many n = is_in_range 2 most_asked n
is_shape OneOf n = is_in_range 2 most_asked n
is_shape And n = is_in_range 2 most_asked n

-- the elements of `requests`, if the operator may have so many, else a bad shape with their count
abbrev pub shaped : Op → List Data → Result (List Data) GroupFault
shaped op ds = if is_shape op (length ds) then Ok ds else Err (BadShape op (length ds))

-- `requests`: the list, its count, and only then each request
abbrev pub requests_of : Op → Members → Result (List RequestDoc) GroupFault
requests_of op ms =
    in_group (member_of (λ m. list_in m 0 most_counted) ms member.Requests) >>= λ ds.
    shaped op ds >>= read_from request_in 0

-- `name`, `proposal`, `operator`, `observation_type`, `ipp_thousandths`, `priority`, `requests`
abbrev pub group_of : Members → Result GroupDoc GroupFault
group_of ms =
    in_group (member_of text_in ms member.Name) >>= λ name.
    in_group (member_of text_in ms member.Proposal) >>= λ proposal.
    in_group (member_of operator_in ms member.Operator) >>= λ op.
    in_group (kind_of ms) >>= λ kind.
    in_group (ipp_of ms) >>= λ ipp.
    in_group (or_default 10 (number_in 1 most_priority) ms member.Priority) >>= λ priority.
    requests_of op ms >>= λ requests.
    Ok (record {
      name = name;
      proposal = proposal;
      op = op;
      kind = kind;
      ipp = ipp;
      priority = priority;
      requests = requests;
    })
