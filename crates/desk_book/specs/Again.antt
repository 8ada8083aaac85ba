-- Sessions that are made again from their lines and replies.
use Rattle.std.specs.Prelude.{◌≡◌, ℕ, List, Option, Some, None, IsSome, Result, Ok}
use Rattle.std.specs.List.{filter_map}
use Rattle.plan_io.specs.declared.lines.ScriptLine.{ScriptLine}
use Rattle.desk_events.specs.declared.command.Command.{Command}
use Rattle.desk_events.specs.declared.command.Command.TheVariants as command
use Rattle.desk_events.specs.declared.entry.EventEntry.{EventEntry}
use Rattle.desk_events.specs.declared.entry.What.{What}
use Rattle.desk_events.specs.declared.entry.What.TheVariants.{Line, Take, Publish}
use Rattle.desk_events.specs.declared.fault.CommandFault.{CommandFault}
use Rattle.desk_events.specs.declared.reply.Reply.{Reply}
use Rattle.desk_events.specs.declared.reply.Reply.TheVariants.{Published}
use Rattle.desk_core.specs.History.{read_at, replay, IsLegal, IsEntry, EachAfter}

-- what stands in place of an entry that is this much of its line and has this reply
abbrev pub in_place : EventEntry → What → Reply → Option EventEntry
in_place e Line reply = Some e
in_place e Take reply = None
in_place e Publish (Published claim) = Some record e { what = Line }
in_place e Publish _ = None

-- the entry in place of this one where a session is made again: a plan that was published is one line, a Take none, and a plan
-- that was refused none
abbrev pub entry_again : EventEntry → Option EventEntry
entry_again e = in_place e e.what e.reply

-- what is said in place of this, where an entry of this version is this much of its line and has this reply
abbrev pub said_in_place : Result Command CommandFault → ℕ → What → Reply → Result Command CommandFault
said_in_place read version Publish (Published claim) = Ok (command.Publish version claim)
said_in_place read version _ _ = read

-- what the line of an entry says then: a plan that was published is replaced by its claim, sent for its version
abbrev pub says_again : List (List ScriptLine) → EventEntry → Result Command CommandFault
says_again scripts e = said_in_place (read_at scripts e) e.version e.what e.reply

-- the line of the entry says so in other scripts, if there is an entry in its place
abbrev pub IsSentAgain : List (List ScriptLine) → List (List ScriptLine) → EventEntry → Type 0
IsSentAgain scripts again e = IsSome (entry_again e) → read_at again e ≡ says_again scripts e

-- where the lines of a legal history are sent again so, each entry in the place of one is right over the state that the entries
-- before it leave: with the reply that there was. And all leave the state that there was
abbrev pub HistoriesAreMadeAgain : Type 0
HistoriesAreMadeAgain =
    (scripts again : List (List ScriptLine)) (history : List EventEntry)
    → IsLegal scripts history → EachAfter (λ before e. IsSentAgain scripts again e) history
    → EachAfter (IsEntry again) (filter_map entry_again history) × (replay again (filter_map entry_again history) ≡ replay scripts history)
