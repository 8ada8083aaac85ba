-- The summary of what was replied to the lines of a workload.
use Rattle.std.specs.Prelude.{◌≡◌, ℕ, ◌+◌, List, [], ◌∷◌, length, map, count_by, sum_by, Bool, true, false, Option, Some, None, codes}
use Rattle.std.specs.List.{filter_map, last_or}
use Rattle.std.specs.Option.{option_map_or}
use Rattle.serde_json.specs.Data.{Data}
use Rattle.plan_base.specs.declared.claim.Claim.{Claim}
use Rattle.plan_json.specs.Line.{line_of}
use Rattle.plan_json.specs.Values.{has, whole, object_of}
use Rattle.plan_io.specs.declared.lines.ScriptLine.{ScriptLine}
use Rattle.plan_io.specs.declared.lines.ScriptLine.TheVariants.{Bytes}
use Rattle.plan_io.specs.declared.sink.PutAnswer.TheVariants as put
use Rattle.plan_io.specs.declared.status.Status.{Status}
use Rattle.plan_io.specs.declared.status.Status.TheVariants.{Done, WriteFault, NoMemory}
use Rattle.plan_io.specs.Sink.{Adds, Puts}
use Rattle.desk_events.specs.declared.entry.EventEntry.{EventEntry}
use Rattle.desk_events.specs.declared.reply.Reply.{Reply}
use Rattle.desk_events.specs.declared.reply.Reply.TheVariants.{Submitted, Published, Refused}
use Rattle.desk_core.specs.History.{IsWhole}
use Rattle.workload.specs.Lines.{workload_lines}
use Rattle.session.specs.declared.summary.Summary.{Summary}
use Rattle.session.specs.Session.{IsSound}

-- ---- what is counted of a history

-- whether a reply is a refusal: of a line, or of the plan that was sought for one
abbrev pub is_refused : Reply → Bool
is_refused (Refused refusal) = true
is_refused _ = false

-- how many requests a reply says to be submitted
abbrev pub requests_in : Reply → ℕ
requests_in (Submitted group ipp_charged requests) = length requests
requests_in _ = 0

-- the claim that a reply publishes, if it publishes one
abbrev pub claim_in : Reply → Option Claim
claim_in (Published claim) = Some claim
claim_in _ = None

-- the last claim that a history publishes
abbrev pub last_claim : List EventEntry → Option Claim
last_claim history = last_or None (filter_map (λ e. claim_in e.reply) history)

-- the summary of a history of so many lines: the bound and the value of the last claim, 0 where there is none, how many entries
-- are refused, and how many requests were submitted
abbrev pub summary_of : ℕ → List EventEntry → Summary
summary_of lines history = record {
  bound = option_map_or (λ c. c.bound) (last_claim history) 0;
  lines = lines;
  refused = count_by (λ e. is_refused e.reply) history;
  requests = sum_by (λ e. requests_in e.reply) history;
  value = option_map_or (λ c. c.value) (last_claim history) 0;
}

-- ---- its text

-- A summary as data. It unfolds only where it is asked.
unfoldable pub summary_data : Summary → Data
summary_data s =
    object_of
    (has (codes "lines") (whole s.lines)
    ∷ has (codes "refused") (whole s.refused)
    ∷ has (codes "requests") (whole s.requests)
    ∷ has (codes "bound") (whole s.bound)
    ∷ has (codes "value") (whole s.value)
    ∷ [])

-- one line
abbrev pub summary_text : Summary → List ℕ
summary_text s = line_of (summary_data s)

-- ---- a workload

-- the lines of the workload of a number, whose desk seeks its plan with four workers
abbrev pub workload_script : ℕ → List ScriptLine
workload_script number = map (λ bytes. Bytes bytes) (workload_lines number 4)

-- the summary of a sound history of these lines, of each of them
pub record IsSummary (number : ℕ) (summary : Summary) : Type 0 where
  pub history : List EventEntry
  pub sound : IsSound (workload_script number ∷ []) history
  pub whole : IsWhole (workload_script number ∷ []) history
  pub summed : summary ≡ summary_of (length (workload_script number)) history

-- the text of such a summary
abbrev pub IsSummaryText : ℕ → List ℕ → Type 0
IsSummaryText number text = (summary : Summary) × IsSummary number summary × (text ≡ summary_text summary)

-- what was written of a workload at each status: the text, less of it, or nothing; the other statuses don't come
abbrev pub IsWorkloadRun : ℕ → Option (List ℕ) → Option (List ℕ) → Status → Type 0
IsWorkloadRun number held held' Done = (text : List ℕ) × IsSummaryText number text × Adds held held' text
IsWorkloadRun number held held' WriteFault = (text : List ℕ) × IsSummaryText number text × Puts held held' put.WriteFault text
IsWorkloadRun number held held' NoMemory = held' ≡ held
IsWorkloadRun number held held' _ = ⊥

-- the text is written, or less of it
abbrev pub WritesSummary : Option (List ℕ) → Option (List ℕ) → List ℕ → Status → Type 0
WritesSummary held held' text Done = Adds held held' text
WritesSummary held held' text WriteFault = Puts held held' put.WriteFault text
WritesSummary held held' text _ = ⊥

-- ---- counting

-- a summary with one reply more
abbrev pub with_reply : Summary → Reply → Summary
with_reply s (Submitted group ipp_charged requests) = record s { requests = s.requests + length requests }
with_reply s (Published claim) = record s { bound = claim.bound; value = claim.value }
with_reply s (Refused refusal) = record s { refused = s.refused + 1 }
with_reply s _ = s

-- with one line more, and its reply
abbrev pub with_line : Summary → Reply → Summary
with_line s reply = with_reply record s { lines = s.lines + 1 } reply
