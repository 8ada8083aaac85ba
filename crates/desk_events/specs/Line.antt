-- What a line says: the command, or the first fault in the one order of all lines.
use Rattle.std.specs.Prelude.{ℕ, List, bytes_eq, codes, if◌then◌else◌, Option, Some, None, ok_or, Result, Ok, Err}
use Rattle.serde_json.specs.Data.{Members}
use Rattle.plan_io.specs.declared.lines.ScriptLine.{ScriptLine}
use Rattle.plan_io.specs.declared.lines.ScriptLine.TheVariants as line
use Rattle.plan_json.specs.declared.member.Member.TheVariants as member
use Rattle.plan_json.specs.Object.{document_of, member_of}
use Rattle.plan_json.specs.Reading.{◌>>=◌}
use Rattle.plan_json.specs.Text.{text_in}
use Rattle.desk_events.specs.declared.command.Command.{Command}
use Rattle.desk_events.specs.declared.command.Command.TheVariants as command
use Rattle.desk_events.specs.declared.fault.CommandFault.{CommandFault}
use Rattle.desk_events.specs.declared.fault.CommandFault.TheVariants.{Refused}
use Rattle.desk_events.specs.declared.refusal.Refusal.TheVariants as refusal
use Rattle.desk_events.specs.declared.read.verb.Verb.{Verb}
use Rattle.desk_events.specs.declared.read.verb.Verb.TheVariants as verb
use Rattle.desk_events.specs.Fault.{in_line, group_in_line}
use Rattle.desk_events.specs.Commands.{open_of, instrument_of, telescope_of, night_of, visibility_of}
use Rattle.desk_events.specs.Commands.{close_of, reopen_of, grant_of, submit_of, amend_of, withdraw_of}
use Rattle.desk_events.specs.Commands.{clock_of, report_of, publish_of, show_of}

-- the verb with that word
abbrev pub verb_named : List ℕ → Option Verb
verb_named word =
    if bytes_eq word (codes "open") then Some verb.Open
    else (if bytes_eq word (codes "instrument") then Some verb.Instrument
    else (if bytes_eq word (codes "telescope") then Some verb.Telescope
    else (if bytes_eq word (codes "night") then Some verb.Night
    else (if bytes_eq word (codes "visibility") then Some verb.Visibility
    else (if bytes_eq word (codes "close") then Some verb.Close
    else (if bytes_eq word (codes "reopen") then Some verb.Reopen
    else (if bytes_eq word (codes "grant") then Some verb.Grant
    else (if bytes_eq word (codes "submit") then Some verb.Submit
    else (if bytes_eq word (codes "amend") then Some verb.Amend
    else (if bytes_eq word (codes "withdraw") then Some verb.Withdraw
    else (if bytes_eq word (codes "clock") then Some verb.Clock
    else (if bytes_eq word (codes "report") then Some verb.Report
    else (if bytes_eq word (codes "plan") then Some verb.Plan
    else (if bytes_eq word (codes "publish") then Some verb.Publish
    else (if bytes_eq word (codes "export") then Some verb.Export
    else (if bytes_eq word (codes "balances") then Some verb.Balances
    else (if bytes_eq word (codes "show") then Some verb.Show
    else None)))))))))))))))))

-- `do`, and only then whether it is a command
abbrev pub verb_of : Members → Result Verb CommandFault
verb_of ms = in_line (member_of text_in ms member.Do) >>= λ word. ok_or (verb_named word) (Refused refusal.UnknownCommand)

-- the members that the command has
abbrev pub command_of : Verb → Members → Result Command CommandFault
command_of verb.Open ms = in_line (open_of ms)
command_of verb.Instrument ms = in_line (instrument_of ms)
command_of verb.Telescope ms = in_line (telescope_of ms)
command_of verb.Night ms = in_line (night_of ms)
command_of verb.Visibility ms = in_line (visibility_of ms)
command_of verb.Close ms = in_line (close_of ms)
command_of verb.Reopen ms = in_line (reopen_of ms)
command_of verb.Grant ms = in_line (grant_of ms)
command_of verb.Submit ms = group_in_line (submit_of ms)
command_of verb.Amend ms = group_in_line (amend_of ms)
command_of verb.Withdraw ms = in_line (withdraw_of ms)
command_of verb.Clock ms = in_line (clock_of ms)
command_of verb.Report ms = in_line (report_of ms)
command_of verb.Plan ms = Ok command.Plan
command_of verb.Publish ms = in_line (publish_of ms)
command_of verb.Export ms = Ok command.Export
command_of verb.Balances ms = Ok command.Balances
command_of verb.Show ms = in_line (show_of ms)

-- `do`, then the command's members
abbrev pub command_in : Members → Result Command CommandFault
command_in ms = verb_of ms >>= λ verb. command_of verb ms

-- whether the bytes are JSON, then whether they are an object, then its members
abbrev pub command_of_bytes : List ℕ → Result Command CommandFault
command_of_bytes bytes = in_line (document_of bytes) >>= command_in

-- whether the line is too long, then its bytes
abbrev pub command_of_line : ScriptLine → Result Command CommandFault
command_of_line line.TooLong = Err (Refused refusal.LineTooLong)
command_of_line (line.Bytes bytes) = command_of_bytes bytes
