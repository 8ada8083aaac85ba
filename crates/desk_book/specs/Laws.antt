-- What holds of the desk's step, and of every legal history.
use Rattle.std.specs.Prelude.{◌≡◌, ℕ, List, [], ◌∷◌, ◌++◌, Bool, true, false, count_by, Result, Ok, Err}
use Rattle.std.specs.List.{AllByRecursion}
use Rattle.plan_io.specs.declared.lines.ScriptLine.{ScriptLine}
use Rattle.desk_events.specs.declared.command.Command.{Command}
use Rattle.desk_events.specs.declared.entry.EventEntry.{EventEntry}
use Rattle.desk_events.specs.declared.entry.What.{What}
use Rattle.desk_events.specs.declared.entry.What.TheVariants.{Line, Take, Publish}
use Rattle.desk_events.specs.declared.fault.CommandFault.{CommandFault}
use Rattle.desk_events.specs.declared.reply.Reply.{Reply}
use Rattle.desk_events.specs.declared.reply.Reply.TheVariants as reply
use Rattle.desk_events.specs.Entry.{text_of_history}
use Rattle.desk_events.specs.Laws.{IsWritableEntry}
use Rattle.desk_core.specs.Desk.{StateSeen, start}
use Rattle.desk_core.specs.Step.{IsStep}
use Rattle.desk_core.specs.History.{read_at, after_publish, replay, IsLineReply, IsLegal, IsWhole}
use Rattle.desk_book.specs.Kept.{IsBook}
use Rattle.desk_book.specs.Seen.{BookSeen, IsOver}

-- ---- replies

-- for one state and what one line says there is one reply
abbrev pub OneReply : Type 0
OneReply =
    (s : StateSeen) (read : Result Command CommandFault) (r r' : Reply)
    → IsLineReply s read r → IsLineReply s read r' → r ≡ r'

-- ---- versions

-- the reply accepts a change: all but those that a plan was taken, that show the desk, and that refuse
abbrev pub is_change : Reply → Bool
is_change reply.Opened = true
is_change reply.Instrument = true
is_change (reply.Telescope telescope) = true
is_change reply.Night = true
is_change reply.Visibility = true
is_change reply.Closed = true
is_change reply.Reopened = true
is_change (reply.Granted balance) = true
is_change (reply.Submitted group ipp_charged requests) = true
is_change (reply.Amended group ipp_charged refunded replaces requests) = true
is_change (reply.Withdrawn refunded) = true
is_change (reply.Clocked expired failed refunded started) = true
is_change (reply.Completed canceled charged) = true
is_change (reply.Failed expired refunded) = true
is_change reply.Taken = false
is_change (reply.Published claim) = true
is_change (reply.Exported claim snapshot) = false
is_change (reply.Balances balances) = false
is_change (reply.Shown document group requests state) = false
is_change (reply.Refused refusal) = false

-- the version of an entry is the number of changes that were accepted before it
abbrev pub VersionsCount : Type 0
VersionsCount =
    (scripts : List (List ScriptLine)) (history before after : List EventEntry) (e : EventEntry)
    → IsLegal scripts history → history ≡ before ++ e ∷ after
    → e.version ≡ count_by (λ x. is_change x.reply) before

-- ---- texts

-- Legal histories of the same scripts with one text are the same, where each entry of one of them can be written. Of the other nothing
-- more is asked: so no legal history has the text of one that is written, but that one.
abbrev pub TextTellsHistory : Type 0
TextTellsHistory =
    (scripts : List (List ScriptLine)) (history other : List EventEntry)
    → IsLegal scripts history → IsLegal scripts other → AllByRecursion IsWritableEntry history
    → text_of_history history ≡ text_of_history other → history ≡ other

-- ---- states

-- a line that says this and had this reply leads from the state s to t: by a step, or with a fault nowhere
abbrev pub LineLeads : StateSeen → Result Command CommandFault → Reply → StateSeen → Type 0
LineLeads s (Err fault) reply t = t ≡ s
LineLeads s (Ok c) reply t = IsStep s c record { reply = reply; state = t }

-- so does an entry that is this much of its line
abbrev pub Leads : StateSeen → Result Command CommandFault → What → Reply → StateSeen → Type 0
Leads s read Line reply t = LineLeads s read reply t
Leads s read Take reply t = t ≡ s
Leads s read Publish reply t = t ≡ after_publish s reply

-- entries lead from the state s to t, one after another
abbrev pub LeadTo : List (List ScriptLine) → List EventEntry → StateSeen → StateSeen → Type 0
LeadTo scripts [] s t = t ≡ s
LeadTo scripts (e ∷ es) s t = (u : StateSeen) × Leads s (read_at scripts e) e.what e.reply u × LeadTo scripts es u t

-- a legal history leads from the empty state to its replay, and no history leads elsewhere
abbrev pub OneReplay : Type 0
OneReplay =
    (scripts : List (List ScriptLine)) (history : List EventEntry)
    → (IsLegal scripts history → LeadTo scripts history start (replay scripts history))
    × ((t : StateSeen) → LeadTo scripts history start t → t ≡ replay scripts history)

-- ---- books

-- where each caller has no open Take and no line left, the history is whole
abbrev pub OverIsWhole : Type 0
OverIsWhole = (b : BookSeen) → IsBook b → ((caller : ℕ) → IsOver b caller) → IsWhole b.scripts b.history
