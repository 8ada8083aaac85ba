-- What holds of the texts of sessions, of their plans and exports, and of the summaries of sessions and workloads.
use Rattle.std.specs.Prelude.{◌≡◌, ℕ, ◌+◌, ◌<◌, ◌⊎◌, List, [], ◌∷◌, ◌++◌, length, slice_index_or, Some, Ok}
use Rattle.plan_base.specs.declared.claim.Claim.{Claim}
use Rattle.plan_base.specs.declared.verdict.Verdict.TheVariants.{Yes}
use Rattle.plan_base.specs.declared.parts.Parts.{Parts}
use Rattle.plan_base.specs.Limits.{most_starts}
use Rattle.plan_base.specs.Solved.{HasFewStarts}
use Rattle.plan_base.specs.Starts.{IsStartCount}
use Rattle.plan_io.specs.declared.lines.ScriptLine.{ScriptLine}
use Rattle.plan_io.specs.declared.lines.ScriptLine.TheVariants.{TooLong}
use Rattle.plan_io.specs.declared.status.Status.TheVariants.{Done}
use Rattle.plan_doc.specs.Check.{IsJudged}
use Rattle.plan_doc.specs.Publication.{publication_of_bytes}
use Rattle.desk_events.specs.declared.command.Command.TheVariants.{Plan}
use Rattle.desk_events.specs.declared.entry.EventEntry.{EventEntry}
use Rattle.desk_events.specs.declared.entry.What.TheVariants.{Publish}
use Rattle.desk_events.specs.declared.refusal.Refusal.TheVariants.{TooManyStarts}
use Rattle.desk_events.specs.declared.reply.Reply.{Reply}
use Rattle.desk_events.specs.declared.reply.Reply.TheVariants.{Published, Exported, Refused}
use Rattle.desk_events.specs.Entry.{text_of_entry, text_of_history}
use Rattle.desk_events.specs.Laws.{IsWritableEntry}
use Rattle.desk_events.specs.Line.{command_of_line}
use Rattle.desk_core.specs.Desk.{StateSeen}
use Rattle.desk_core.specs.Step.{IsSnapshotOf}
use Rattle.desk_core.specs.History.{IsLegal, IsWhole, replay}
use Rattle.session.specs.declared.summary.Summary.{Summary}
use Rattle.session.specs.Session.{IsSound, IsAnswered}
use Rattle.session.specs.Summary.{summary_of, IsSummary, IsWorkloadRun}

-- What is written of scripts tells what was done: no other legal history of the scripts has the text that a session writes of them. So two
-- sessions of the same scripts that write the same had one history.
abbrev pub TextHasOneHistory : Type 0
TextHasOneHistory =
    (scripts : List (List ScriptLine)) (held now : List ℕ) (answered : IsAnswered scripts (Some held) (Some now)) (other : List EventEntry)
    → IsLegal scripts other → now ≡ held ++ text_of_history other → answered.history ≡ other

-- ---- plans

-- there are too many possible starts, and the reply has their exact count
abbrev pub TellsManyStarts : StateSeen → Reply → Type 0
TellsManyStarts s reply =
    (count : ℕ) × (reply ≡ Refused (TooManyStarts count)) × ((parts : Parts) × IsSnapshotOf s parts × IsStartCount parts count × (most_starts < count))

-- there are few enough, and the reply has a claim that is published
abbrev pub PublishesClaim : StateSeen → Reply → Type 0
PublishesClaim s reply = (claim : Claim) × (reply ≡ Published claim) × ((parts : Parts) × IsSnapshotOf s parts × HasFewStarts parts)

-- What the Publish of a plan comes to in a legal history of one script: a claim, or the count of too many starts. It's never stale,
-- as nothing stands between it and its Take, and never rejected.
abbrev pub PlansArePublished : Type 0
PlansArePublished =
    (lines : List ScriptLine) (history before after : List EventEntry) (e : EventEntry)
    → IsLegal (lines ∷ []) history → history ≡ before ++ e ∷ after → e.what ≡ Publish
    → TellsManyStarts (replay (lines ∷ []) before) e.reply ⊎ PublishesClaim (replay (lines ∷ []) before) e.reply

-- ---- exports

-- The text of an entry that exports a claim and a snapshot, with its newline, is read as these two, and the verdict on it is Yes, with
-- the claim's value and its bound, which no plan that is feasible for the snapshot is worth more than.
abbrev pub ExportsAreChecked : Type 0
ExportsAreChecked =
    (scripts : List (List ScriptLine)) (history before after : List EventEntry) (e : EventEntry) (claim : Claim) (parts : Parts)
    → IsSound scripts history → history ≡ before ++ e ∷ after → e.reply ≡ Exported claim parts → IsWritableEntry e
    → (publication_of_bytes (text_of_entry e) ≡ Ok (record { snapshot = parts; claim = claim }))
    × IsJudged (text_of_entry e) (Yes claim.value claim.bound)

-- ---- summaries

-- no line before the last asks for a plan
abbrev pub PlansLast : List ScriptLine → Type 0
PlansLast lines = (place : ℕ) → place + 1 < length lines → ¬ (command_of_line (slice_index_or lines place TooLong) ≡ Ok Plan)

-- Of lines of which the last alone may ask for a plan, all sound and whole histories have one summary, whatever the workers do:
-- planned claims for one snapshot differ in prices and placements alone. Replies to lines after a plan may depend on these.
abbrev pub LinesHaveOneSummary : Type 0
LinesHaveOneSummary =
    (lines : List ScriptLine) (h k : List EventEntry) → PlansLast lines
    → IsSound (lines ∷ []) h → IsWhole (lines ∷ []) h → IsSound (lines ∷ []) k → IsWhole (lines ∷ []) k
    → summary_of (length lines) h ≡ summary_of (length lines) k

-- a number has one summary
abbrev pub NumberHasOneSummary : Type 0
NumberHasOneSummary = (number : ℕ) (a b : Summary) → IsSummary number a → IsSummary number b → a ≡ b

-- two runs of a number's workload that write all that they have to write the same line
abbrev pub RunsWriteOneLine : Type 0
RunsWriteOneLine =
    (number : ℕ) (held now held' now' : List ℕ) → IsWorkloadRun number (Some held) (Some now) Done → IsWorkloadRun number (Some held') (Some now') Done
    → (line : List ℕ) × (now ≡ held ++ line) × (now' ≡ held' ++ line)
