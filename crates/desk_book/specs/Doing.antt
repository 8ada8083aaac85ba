-- What each call of a book does.
use Rattle.std.specs.Prelude.{◌≡◌, ◌≢◌, ℕ, ◌==◌, Some, None, IsSome, Result, if◌then◌else◌}
use Rattle.plan_base.specs.declared.taken.Outcome.{Outcome}
use Rattle.plan_base.specs.declared.taken.Outcome.TheVariants as outcome
use Rattle.plan_base.specs.declared.taken.Taken.{Taken as TakenParts}
use Rattle.plan_base.specs.Solved.{SolvedTake}
use Rattle.plan_io.specs.declared.lines.ScriptLine.{ScriptLine}
use Rattle.desk_events.specs.declared.command.Command.{Command}
use Rattle.desk_events.specs.declared.entry.EventEntry.{EventEntry}
use Rattle.desk_events.specs.declared.entry.What.TheVariants.{Line, Take, Publish}
use Rattle.desk_events.specs.declared.fault.CommandFault.{CommandFault}
use Rattle.desk_events.specs.declared.refusal.Refusal.TheVariants.{Stale, TooManyStarts}
use Rattle.desk_events.specs.declared.reply.Reply.{Reply}
use Rattle.desk_events.specs.declared.reply.Reply.TheVariants.{Taken, Published, Refused}
use Rattle.desk_events.specs.Line.{command_of_line}
use Rattle.desk_core.specs.Desk.{DeskSeen, StateSeen}
use Rattle.desk_core.specs.DeskSnapshot.{snapshot_of}
use Rattle.desk_core.specs.History.{IsPlanning, IsLineReply, after_line, after_publish}
use Rattle.desk_book.specs.declared.step.BookCall.{BookCall}
use Rattle.desk_book.specs.declared.step.BookCall.TheVariants as call
use Rattle.desk_book.specs.declared.step.BookStep.{BookStep}
use Rattle.desk_book.specs.declared.step.BookStep.TheVariants as step
use Rattle.desk_book.specs.declared.step.PublishStep.{PublishStep}
use Rattle.desk_book.specs.declared.step.PublishStep.TheVariants as publish
use Rattle.desk_book.specs.Claims.{IsBoundedReply}
use Rattle.desk_book.specs.Seen.{BookSeen, take_of, next_line, IsOver, entry_of, with_entry, with_take}

-- ---- over a state

-- a line that says this is one step, with this reply, and leaves the state t
pub record IsStepDone (s : StateSeen) (read : Result Command CommandFault) (reply : Reply) (t : StateSeen) : Type 0 where
  pub differs : ¬ (IsPlanning s read)
  pub replied : IsLineReply s read reply
  pub bounded : IsBoundedReply s reply
  pub left : t ≡ after_line s read reply

-- what was taken is the snapshot of the state's desk, with its settings
abbrev pub IsTakenOf : StateSeen → TakenParts → Type 0
IsTakenOf s taken = (d : DeskSeen) × (s.desk ≡ Some d) × (taken.snapshot ≡ snapshot_of s.version d) × (taken.settings ≡ d.opening.settings)

-- what is replied to what was found
abbrev pub found_reply : Outcome → Reply
found_reply (outcome.Plan claim) = Published claim
found_reply (outcome.TooManyStarts count) = Refused (TooManyStarts count)

-- what is replied to what was found for a Take: it is stale where the state has another version than the Take
abbrev pub publish_reply : StateSeen → SolvedTake → Reply
publish_reply s solved =
    if s.version == solved.taken.snapshot.version then found_reply solved.outcome else Refused (Stale solved.taken.snapshot.version s.version)

-- ---- over a book

-- the next line of a caller says this
abbrev pub SaysNext : BookSeen → ℕ → Result Command CommandFault → Type 0
SaysNext b caller read = (line : ScriptLine) × (next_line b caller ≡ Some line) × (command_of_line line ≡ read)

-- the caller's next line, which says this, is done as one step, and its entry is added
abbrev pub DoesStep : BookSeen → ℕ → Result Command CommandFault → BookSeen → Type 0
DoesStep b caller read c =
    (reply : Reply) × IsStepDone b.state read reply c.state × (c ≡ with_entry b (entry_of b caller Line reply) c.state)

-- the caller's next line, which says this, asks for a plan: this is taken, and is the caller's open Take, and its entry is added
abbrev pub DoesTake : BookSeen → ℕ → Result Command CommandFault → TakenParts → BookSeen → Type 0
DoesTake b caller read taken c =
    IsPlanning b.state read × IsTakenOf b.state taken × (taken.caller ≡ caller)
    × (c ≡ with_take (with_entry b (entry_of b caller Take Taken) b.state) caller (Some taken))

-- what is done of a caller's next line
abbrev pub IsDone : BookSeen → ℕ → Result Command CommandFault → BookCall → BookSeen → Type 0
IsDone b caller read call.Replied c = DoesStep b caller read c
IsDone b caller read (call.Taken taken) c = DoesTake b caller read taken c

-- what is answered where a caller goes on, and the book that is left: nothing is done where its Take is open, nor where none is
-- and no line is left
abbrev pub IsPerformed : BookSeen → ℕ → BookStep → BookSeen → Type 0
IsPerformed b caller step.Replied c = (take_of b.takes caller ≡ None)
    × ((read : Result Command CommandFault) × SaysNext b caller read × DoesStep b caller read c)
IsPerformed b caller (step.Taken taken) c = (take_of b.takes caller ≡ None)
    × ((read : Result Command CommandFault) × SaysNext b caller read × DoesTake b caller read taken c)
IsPerformed b caller step.TakeOpen c = IsSome (take_of b.takes caller) × (c ≡ b)
IsPerformed b caller step.Over c = IsOver b caller × (c ≡ b)

-- the entry of what was found for a caller's open Take is added, and the Take is open no more
abbrev pub IsPublished : BookSeen → SolvedTake → EventEntry → BookSeen → Type 0
IsPublished b solved e c =
    (take_of b.takes solved.taken.caller ≡ Some solved.taken)
    × (e ≡ entry_of b solved.taken.caller Publish (publish_reply b.state solved))
    × (c ≡ with_take (with_entry b e (after_publish b.state e.reply)) solved.taken.caller None)

-- what is answered to what was found, and the book that is left: nothing is done where the caller has no open Take, nor where
-- it has another one
abbrev pub IsAnswered : BookSeen → SolvedTake → PublishStep → BookSeen → Type 0
IsAnswered b solved (publish.Replied e) c = IsPublished b solved e c
IsAnswered b solved publish.NotTaken c = (take_of b.takes solved.taken.caller ≡ None) × (c ≡ b)
IsAnswered b solved publish.OtherTake c =
    IsSome (take_of b.takes solved.taken.caller) × (take_of b.takes solved.taken.caller ≢ Some solved.taken) × (c ≡ b)
