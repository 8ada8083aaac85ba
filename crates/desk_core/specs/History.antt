-- Histories: which are legal and which are whole for the callers' scripts, and the state that one leaves.
use Rattle.std.specs.Prelude.{◌≡◌, ℕ, ◌+◌, ◌-◌, ◌≤◌, ◌<◌, ◌==◌, ◌⊎◌, List, [], ◌∷◌, ◌++◌, length, map, filter, fold}
use Rattle.std.specs.Prelude.{slice_index_or, Option, Some, None, Result, Ok, Err, IsSome}
use Rattle.std.specs.List.{last_or}
use Rattle.plan_base.specs.declared.claim.Claim.{Claim}
use Rattle.plan_base.specs.declared.parts.Parts.{Parts}
use Rattle.plan_base.specs.declared.verdict.Verdict.{Verdict}
use Rattle.plan_base.specs.declared.verdict.Verdict.TheVariants.{Yes, No}
use Rattle.plan_base.specs.Limits.{most_starts}
use Rattle.plan_base.specs.Starts.{IsStartCount}
use Rattle.plan_base.specs.Verdict.{IsCertified}
use Rattle.plan_base.specs.Solved.{HasFewStarts}
use Rattle.plan_io.specs.declared.lines.ScriptLine.{ScriptLine}
use Rattle.plan_io.specs.declared.lines.ScriptLine.TheVariants.{TooLong}
use Rattle.desk_events.specs.declared.command.Command.{Command}
use Rattle.desk_events.specs.declared.command.Command.TheVariants as command
use Rattle.desk_events.specs.declared.entry.EventEntry.{EventEntry}
use Rattle.desk_events.specs.declared.entry.What.{What}
use Rattle.desk_events.specs.declared.entry.What.TheVariants.{Line, Take, Publish}
use Rattle.desk_events.specs.declared.fault.CommandFault.{CommandFault}
use Rattle.desk_events.specs.declared.refusal.Refusal.{Refusal}
use Rattle.desk_events.specs.declared.refusal.Refusal.TheVariants.{Stale, TooManyStarts, Rejected}
use Rattle.desk_events.specs.declared.reply.Reply.{Reply}
use Rattle.desk_events.specs.declared.reply.Reply.TheVariants.{Taken, Published, Refused}
use Rattle.desk_events.specs.Line.{command_of_line}
use Rattle.desk_core.specs.Refusals.{refusal_in}
use Rattle.desk_core.specs.Desk.{DeskSeen, StateSeen, Stepped, start}
use Rattle.desk_core.specs.Publishing.{with_publication}
use Rattle.desk_core.specs.Step.{step, IsStep, IsSnapshotOf}

-- ---- lines

-- the lines that a caller sends, one script a caller
abbrev pub script_of : List (List ScriptLine) → ℕ → List ScriptLine
script_of scripts caller = slice_index_or scripts caller []

-- the line of an entry; lines are counted from 1
abbrev pub line_of : List (List ScriptLine) → EventEntry → ScriptLine
line_of scripts e = slice_index_or (script_of scripts e.caller) (e.line - 1) TooLong

-- what the line of an entry says: its command, or its first fault
abbrev pub read_at : List (List ScriptLine) → EventEntry → Result Command CommandFault
read_at scripts e = command_of_line (line_of scripts e)

-- the line asks for a plan, and the desk is opened
abbrev pub IsPlanning : StateSeen → Result Command CommandFault → Type 0
IsPlanning s read = (read ≡ Ok command.Plan) × IsSome s.desk

-- ---- the state that a history leaves

-- the verdict that a reply to a `publish` line tells, where it tells one: another reply comes of no verdict
abbrev pub verdict_told : Reply → Verdict
verdict_told (Published claim) = Yes claim.value claim.bound
verdict_told (Refused (Rejected reason)) = No reason
verdict_told _ = Yes 0 0

-- the state that is left where a step was made
abbrev pub left_by : StateSeen → Option Stepped → StateSeen
left_by s None = s
left_by s (Some stepped) = stepped.state

-- the state after a line that says this and had this reply; a line with a fault leaves the state
abbrev pub after_line : StateSeen → Result Command CommandFault → Reply → StateSeen
after_line s (Err fault) reply = s
after_line s (Ok c) reply = left_by s (step (verdict_told reply) s c)

-- the state after a claim is published on a desk
abbrev pub with_published : StateSeen → Option DeskSeen → Claim → StateSeen
with_published s None claim = s
with_published s (Some d) claim = record { version = s.version + 1; desk = Some (with_publication s.version claim d) }

-- the state after the Publish of a plan with this reply
abbrev pub after_publish : StateSeen → Reply → StateSeen
after_publish s (Published claim) = with_published s s.desk claim
after_publish s _ = s

-- the state after an entry of a line that says this: a Take leaves the state
abbrev pub after_what : StateSeen → Result Command CommandFault → What → Reply → StateSeen
after_what s read Line reply = after_line s read reply
after_what s read Take reply = s
after_what s read Publish reply = after_publish s reply

-- the state after an entry
abbrev pub after_entry : List (List ScriptLine) → StateSeen → EventEntry → StateSeen
after_entry scripts s e = after_what s (read_at scripts e) e.what e.reply

-- the state that a history leaves, from the empty one on
abbrev pub replay : List (List ScriptLine) → List EventEntry → StateSeen
replay scripts history = fold (after_entry scripts) start history

-- ---- in which order the entries come

-- the entries of one caller
abbrev pub entries_of : ℕ → List EventEntry → List EventEntry
entries_of caller history = filter (λ e. e.caller == caller) history

-- the entries of one caller, each as its line and what it is of it
abbrev pub turns_of : ℕ → List EventEntry → List (ℕ × What)
turns_of caller history = map (λ e. (e.line, e.what)) (entries_of caller history)

-- the turns are those of the lines from n up to the one before m, in order and each once: one Line, or a Take and right after
-- it a Publish
abbrev pub AreTurnsOf : ℕ → List (ℕ × What) → ℕ → Type 0
AreTurnsOf n [] m = n ≡ m
AreTurnsOf n ((k, Line) ∷ turns) m = (k ≡ n) × AreTurnsOf (n + 1) turns m
AreTurnsOf n ((k, Take) ∷ (l, Publish) ∷ turns) m = (k ≡ n) × (l ≡ n) × AreTurnsOf (n + 1) turns m
AreTurnsOf n _ m = ⊥

-- the turns are those of a prefix of the script; of its last line the Publish may be missing
abbrev pub AnswersPrefix : List ScriptLine → List (ℕ × What) → Type 0
AnswersPrefix script turns =
    (done : ℕ) × (((done ≤ length script) × AreTurnsOf 1 turns (done + 1))
    ⊎ ((before : List (ℕ × What)) × (done < length script) × (turns ≡ before ++ (done + 1, Take) ∷ []) × AreTurnsOf 1 before (done + 1)))

-- each caller's entries are those of a prefix of its script
abbrev pub IsInterleaving : List (List ScriptLine) → List EventEntry → Type 0
IsInterleaving scripts history = (caller : ℕ) → AnswersPrefix (script_of scripts caller) (turns_of caller history)

-- each script is used up, and each Take has its Publish
abbrev pub IsWhole : List (List ScriptLine) → List EventEntry → Type 0
IsWhole scripts history = (caller : ℕ) → AreTurnsOf 1 (turns_of caller history) (length (script_of scripts caller) + 1)

-- ---- what each entry replies

-- the reply to a line that is one step: the refusal of its fault, or the step's
abbrev pub IsLineReply : StateSeen → Result Command CommandFault → Reply → Type 0
IsLineReply s (Err fault) reply = (r : Refusal) × (refusal_in fault ≡ Some r) × (reply ≡ Refused r)
IsLineReply s (Ok c) reply = (stepped : Stepped) × IsStep s c stepped × (stepped.reply ≡ reply)

-- the caller's last entry is a Take of version v
abbrev pub HasTaken : List EventEntry → ℕ → ℕ → Type 0
HasTaken before caller v = (t : EventEntry) × (last_or None (entries_of caller before) ≡ Some t) × (t.what ≡ Take) × (t.version ≡ v)

-- what may be published over the state s where the Take has version v: Stale where a change was accepted since, else
-- TooManyStarts where there are more than 1,048,576 possible starts, else a claim that is certified for the snapshot
abbrev pub IsPublication : StateSeen → ℕ → Reply → Type 0
IsPublication s v (Refused (Stale asked newer)) = (v < s.version) × (asked ≡ v) × (newer ≡ s.version)
IsPublication s v (Refused (TooManyStarts count)) =
    (v ≡ s.version) × ((parts : Parts) × IsSnapshotOf s parts × IsStartCount parts count × (most_starts < count))
IsPublication s v (Published claim) = (v ≡ s.version) × ((parts : Parts) × IsSnapshotOf s parts × HasFewStarts parts × IsCertified parts claim)
IsPublication s v _ = ⊥

-- what an entry may reply that is this much of its line: a step, a Take of a plan, or the Publish of the caller's Take
abbrev pub IsReply : List (List ScriptLine) → List EventEntry → EventEntry → What → Type 0
IsReply scripts before e Line =
    ¬ (IsPlanning (replay scripts before) (read_at scripts e)) × IsLineReply (replay scripts before) (read_at scripts e) e.reply
IsReply scripts before e Take = IsPlanning (replay scripts before) (read_at scripts e) × (e.reply ≡ Taken)
IsReply scripts before e Publish = (v : ℕ) × HasTaken before e.caller v × IsPublication (replay scripts before) v e.reply

-- the entry is right over the state that the entries before it leave
pub record IsEntry (scripts : List (List ScriptLine)) (before : List EventEntry) (e : EventEntry) : Type 0 where
  pub version : e.version ≡ (replay scripts before).version
  pub reply : IsReply scripts before e e.what

-- R holds of each entry and the entries before it
abbrev pub EachAfter : (List EventEntry → EventEntry → Type 0) → List EventEntry → Type 0
EachAfter R history = (before after : List EventEntry) (e : EventEntry) → history ≡ before ++ e ∷ after → R before e

-- the history is one that the desk may have had, with these scripts
pub record IsLegal (scripts : List (List ScriptLine)) (history : List EventEntry) : Type 0 where
  pub order : IsInterleaving scripts history
  pub each : EachAfter (IsEntry scripts) history

-- the entry e, after the entries before, publishes the claim for these parts
pub record Publishes (scripts : List (List ScriptLine)) (before : List EventEntry) (e : EventEntry) (parts : Parts) (claim : Claim) : Type 0 where
  pub reply : e.reply ≡ Published claim
  pub snapshot : IsSnapshotOf (replay scripts before) parts
