-- When a request may be observed.
use Rattle.std.specs.Prelude.{ℕ, List, is_some, nat_lt, if◌then◌else◌, Result, Ok, Err}
use Rattle.plan_base.specs.Limits.{most_period, most_windows}
use Rattle.serde_json.specs.Data.{Data, Members}
use Rattle.plan_base.specs.declared.span.Span.{Span}
use Rattle.plan_json.specs.declared.member.Member.TheVariants as member
use Rattle.plan_json.specs.declared.fault.JsonFault.{JsonFault}
use Rattle.plan_json.specs.Object.{value_of, member_of, object_in}
use Rattle.plan_json.specs.Reading.{result_map, ◌>>=◌, read_from}
use Rattle.plan_json.specs.Moment.{moment_in}
use Rattle.plan_json.specs.List.{list_in}
use Rattle.plan_json.specs.Whole.{number_in}
use Rattle.request_model.specs.declared.fault.GroupFault.{GroupFault}
use Rattle.request_model.specs.declared.fault.GroupFault.TheVariants.{BadWindow}
use Rattle.request_model.specs.declared.request.Cadence.{Cadence}
use Rattle.request_model.specs.declared.request.When.{When}
use Rattle.request_model.specs.declared.request.When.TheVariants as when
use Rattle.request_model.specs.Fault.{in_group}

-- `start`, `end`, `period`, `jitter`
abbrev pub cadence_of : Members → Result Cadence JsonFault
cadence_of ms =
    member_of moment_in ms member.Start >>= λ first.
    member_of moment_in ms member.End >>= λ last.
    member_of (number_in 0 most_period) ms member.Period >>= λ apart.
    member_of (number_in 0 most_period) ms member.Jitter >>= λ round.
    Ok (record { start = first; end = last; period = apart; jitter = round })

-- a window of the request at place `index`: `start`, `end`, of which the first comes before the second
abbrev pub window_in : ℕ → ℕ → Data → Result Span GroupFault
window_in index window d =
    in_group (object_in member.Windows d) >>= λ ms.
    in_group (member_of moment_in ms member.Start) >>= λ first.
    in_group (member_of moment_in ms member.End) >>= λ last.
    if nat_lt first.0 last.0 then Ok (record { from = first; to = last }) else Err (BadWindow index window)

-- `windows` of the request at place `index`: 1 to 32, in the document's order, or the first fault of one
abbrev pub windows_of : ℕ → Members → Result (List Span) GroupFault
windows_of index ms = in_group (member_of (λ m. list_in m 1 most_windows) ms member.Windows) >>= read_from (window_in index) 0

-- `cadence`, or else `windows`, which aren't read where a cadence stands
abbrev pub when_of : ℕ → Members → Result When GroupFault
when_of index ms =
    if is_some (value_of ms member.Cadence)
    then result_map when.Cadence (in_group (member_of object_in ms member.Cadence >>= cadence_of))
    else result_map when.Windows (windows_of index ms)
