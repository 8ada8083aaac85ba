-- What each call of a shared desk does to what its pass knows.
use Rattle.std.specs.Prelude.{◌≡◌, ℕ, List, [], ◌∷◌, ◌++◌, length, slice_get, Some, None}
use Rattle.plan_io.specs.declared.lines.ScriptLine.{ScriptLine}
use Rattle.desk_events.specs.declared.entry.EventEntry.{EventEntry}
use Rattle.desk_events.specs.declared.entry.What.{What}
use Rattle.desk_events.specs.declared.entry.What.TheVariants.{Line, Take, Publish}
use Rattle.desk_events.specs.Entry.{text_of_entry}
use Rattle.desk_core.specs.Desk.{StateSeen}
use Rattle.desk_book.specs.Doing.{publish_reply}
use Rattle.plan_base.specs.Solved.{SolvedTake}
use Rattle.desk_passes.specs.declared.holders.CallAnswer.{CallAnswer}
use Rattle.desk_passes.specs.declared.holders.CallAnswer.TheVariants as answer
use Rattle.desk_passes.specs.declared.holders.Note.{Note}
use Rattle.desk_passes.specs.declared.holders.Pass.{Pass}
use Rattle.desk_passes.specs.declared.holders.Root.{Root}
use Rattle.desk_passes.specs.declared.seen.OpenTake.{OpenTake}
use Rattle.desk_passes.specs.declared.seen.PassView.{PassView}
use Rattle.desk_passes.specs.declared.seen.SeenEntry.{SeenEntry}
use Rattle.desk_passes.specs.declared.desk.SharedDesk.{SharedDesk}
use Rattle.desk_passes.specs.Seen.{BeginsWith}
use Rattle.desk_passes.specs.Knowing.{SeesHistory}

-- ---- whose a root, a pass and a note is, and what it knows

-- how many callers a shared desk has
abbrev pub callers_of : SharedDesk → ℕ
callers_of desk = desk.table.shared.key

-- the root is of this shared desk: it has a seat at the same table
abbrev pub IsRootOf : SharedDesk → Root → Type 0
IsRootOf desk root = root.inner.table_id ≡ desk.table.shared.table_id

-- the pass is of this shared desk: it has a seat at the same table
abbrev pub IsPassOf : SharedDesk → Pass → Type 0
IsPassOf desk pass = pass.inner.table_id ≡ desk.table.shared.table_id

-- the note is of this shared desk: it has a seat at the same table
abbrev pub IsNoteOf : SharedDesk → Note → Type 0
IsNoteOf desk note = note.inner.table_id ≡ desk.table.shared.table_id

-- what the root knows: of the history, and where the pass of each caller is
abbrev pub root_view : Root → PassView
root_view root = root.inner.me.0

-- what a pass knows: of the history, of its own calls, and of its open Take
abbrev pub view : Pass → PassView
view pass = pass.inner.me.0

-- what a note knows of the history
abbrev pub note_view : Note → PassView
note_view note = note.inner.me.0

-- ---- what a call does

-- nothing was done, but more of the history may be seen
pub record SeesMore (v w : PassView) : Type 0 where
  pub seen : BeginsWith w.seen v.seen
  pub own : w.own ≡ v.own
  pub take : w.take ≡ v.take
  pub knows : SeesHistory w

-- one entry was added, with this line: it stands at this place in what is seen, after all that was seen before and behind all
-- else, and is one more of the pass's own calls
pub record Adds (v : PassView) (place : ℕ) (x : SeenEntry) (w : PassView) : Type 0 where
  pub between : List SeenEntry
  pub seen : w.seen ≡ (v.seen ++ between) ++ x ∷ []
  pub stands : place ≡ length (v.seen ++ between)
  pub own : w.own ≡ v.own ++ x ∷ []
  pub mine : v.caller ≡ Some x.entry.caller
  pub knows : SeesHistory w

-- an entry that is this much of the line was added
abbrev pub AddsEntry : PassView → ℕ → ScriptLine → What → PassView → Type 0
AddsEntry v place line what w = (x : SeenEntry) × (x.line ≡ line) × (x.entry.what ≡ what) × Adds v place x w

-- what a call of a line does: the line is done, or what it asks to be planned is taken
abbrev pub IsCalled : PassView → ScriptLine → CallAnswer → PassView → Type 0
IsCalled v line (answer.Replied receipt) w = AddsEntry v receipt.place line Line w × (w.take ≡ None)
IsCalled v line (answer.Taken taken receipt) w =
    AddsEntry v receipt.place line Take w × (w.take ≡ Some record { taken = taken; line = line })

-- what was found is for the pass's open Take
abbrev pub IsForTake : PassView → SolvedTake → Type 0
IsForTake v solved = (t : OpenTake) × (v.take ≡ Some t) × (solved.taken ≡ t.taken)

-- what is replied to what was found, by an entry of this version: it is stale where that isn't the version of the Take
abbrev pub IsFoundReply : SolvedTake → EventEntry → Type 0
IsFoundReply solved e = (s : StateSeen) × (s.version ≡ e.version) × (e.reply ≡ publish_reply s solved)

-- what was found for the pass's open Take is published, or told to be stale or to have too many starts, with the line of this Take
abbrev pub IsPublished : PassView → SolvedTake → ℕ → PassView → Type 0
IsPublished v solved place w =
    (t : OpenTake) × (v.take ≡ Some t)
    × ((x : SeenEntry) × (x.line ≡ t.line) × (x.entry.what ≡ Publish) × IsFoundReply solved x.entry × Adds v place x w × (w.take ≡ None))

-- the text of the entry at a place of what was seen was added
abbrev pub WritesEntry : PassView → ℕ → List ℕ → List ℕ → Type 0
WritesEntry v place old new = (x : SeenEntry) × (slice_get v.seen place ≡ Some x) × (new ≡ old ++ text_of_entry x.entry)
