-- What a text fixes of its entries.
use Rattle.std.specs.Prelude.{◌≡◌, ℕ, List, map, ⊤, Ok}
use Rattle.std.specs.List.{AllByRecursion}
use Rattle.serde_json.specs.Read.{max_depth}
use Rattle.plan_json.specs.Exact.{IsWritten}
use Rattle.plan_json.specs.Object.{data_of}
use Rattle.request_model.specs.Ranges.{IsGroup}
use Rattle.desk_events.specs.declared.entry.EventEntry.{EventEntry}
use Rattle.desk_events.specs.declared.reply.Reply.{Reply}
use Rattle.desk_events.specs.declared.reply.Reply.TheVariants as reply
use Rattle.desk_events.specs.Entry.{data_of_entry, text_of_entry, text_of_history}

-- the object of the entry can be written
abbrev pub IsWritableEntry : EventEntry → Type 0
IsWritableEntry e = IsWritten max_depth (data_of_entry e)

-- the text of an entry is read as its object, with the newline at its end
abbrev pub EntriesAreReadBack : Type 0
EntriesAreReadBack = (e : EventEntry) → IsWritableEntry e → data_of (text_of_entry e) ≡ Ok (data_of_entry e)

-- the document that a reply shows is that of a group that can be read
abbrev pub ShowsGroup : Reply → Type 0
ShowsGroup (reply.Shown document group requests state) = IsGroup document
ShowsGroup reply.Opened = ⊤
ShowsGroup reply.Instrument = ⊤
ShowsGroup (reply.Telescope telescope) = ⊤
ShowsGroup reply.Night = ⊤
ShowsGroup reply.Visibility = ⊤
ShowsGroup reply.Closed = ⊤
ShowsGroup reply.Reopened = ⊤
ShowsGroup (reply.Granted balance) = ⊤
ShowsGroup (reply.Submitted group ipp_charged requests) = ⊤
ShowsGroup (reply.Amended group ipp_charged refunded replaces requests) = ⊤
ShowsGroup (reply.Withdrawn refunded) = ⊤
ShowsGroup (reply.Clocked expired failed refunded started) = ⊤
ShowsGroup (reply.Completed canceled charged) = ⊤
ShowsGroup (reply.Failed expired refunded) = ⊤
ShowsGroup reply.Taken = ⊤
ShowsGroup (reply.Published claim) = ⊤
ShowsGroup (reply.Exported claim snapshot) = ⊤
ShowsGroup (reply.Balances balances) = ⊤
ShowsGroup (reply.Refused refusal) = ⊤

-- the entry can be written, and what it shows can be read
pub record IsTelling (e : EventEntry) : Type 0 where
  pub writable : IsWritableEntry e
  pub group : ShowsGroup e.reply

-- All that the text of an entry tells: its caller, line, version and reply. It doesn't tell which part of its line the entry is:
-- `published` is the word for a `publish` line and for what a `plan` line publishes.
abbrev pub told : EventEntry → ℕ × ℕ × ℕ × Reply
told e = (e.caller, e.line, e.version, e.reply)

-- entries of one text tell the same
abbrev pub OneEntry : Type 0
OneEntry = (d e : EventEntry) → IsTelling d → IsTelling e → text_of_entry d ≡ text_of_entry e → told d ≡ told e

-- histories of one text tell the same, entry by entry
abbrev pub OneHistory : Type 0
OneHistory =
    (ds es : List EventEntry) → AllByRecursion IsTelling ds → AllByRecursion IsTelling es
    → text_of_history ds ≡ text_of_history es → map told ds ≡ map told es
