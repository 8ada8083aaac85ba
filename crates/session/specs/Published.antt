-- What an `export` line shows: the claim that was published last, and the snapshot that it was published for.
use Rattle.std.specs.Prelude.{◌≡◌, ◌⊎◌, List, ◌∷◌, ◌++◌, None, Ok, IsSome}
use Rattle.std.specs.List.{AllByRecursion}
use Rattle.plan_base.specs.declared.claim.Claim.{Claim}
use Rattle.plan_base.specs.declared.parts.Parts.{Parts}
use Rattle.plan_io.specs.declared.lines.ScriptLine.{ScriptLine}
use Rattle.desk_events.specs.declared.command.Command.TheVariants.{Export}
use Rattle.desk_events.specs.declared.entry.EventEntry.{EventEntry}
use Rattle.desk_events.specs.declared.refusal.Refusal.TheVariants.{NotOpened, NothingPublished}
use Rattle.desk_events.specs.declared.reply.Reply.{Reply}
use Rattle.desk_events.specs.declared.reply.Reply.TheVariants.{Published, Exported, Refused}
use Rattle.desk_core.specs.Desk.{StateSeen}
use Rattle.desk_core.specs.History.{Publishes, IsLegal, read_at, replay}

-- the entry publishes no claim
abbrev pub IsNoPublication : EventEntry → Type 0
IsNoPublication e = (claim : Claim) → ¬ (e.reply ≡ Published claim)

-- of these entries the last that publishes a claim publishes this one, and the parts are the snapshot of the state that the entries
-- before that one leave
pub record IsPublishedLast (scripts : List (List ScriptLine)) (entries : List EventEntry) (claim : Claim) (parts : Parts) : Type 0 where
  pub before : List EventEntry
  pub entry : EventEntry
  pub meanwhile : List EventEntry
  pub cut : entries ≡ before ++ entry ∷ meanwhile
  pub publishes : Publishes scripts before entry parts claim
  pub none : AllByRecursion IsNoPublication meanwhile

-- In a legal history an entry that exports a claim and a snapshot exports the claim that was published last before it, and the
-- snapshot that it was published for.
abbrev pub ExportsAreLast : Type 0
ExportsAreLast =
    (scripts : List (List ScriptLine)) (history front after : List EventEntry) (e : EventEntry) (claim : Claim) (parts : Parts)
    → IsLegal scripts history → history ≡ front ++ e ∷ after → e.reply ≡ Exported claim parts → IsPublishedLast scripts front claim parts

-- the refusal of an `export` line over this state, where nothing was published: NotOpened, or, of an opened desk, NothingPublished
abbrev pub IsExportRefused : StateSeen → Reply → Type 0
IsExportRefused s reply = ((reply ≡ Refused NotOpened) × (s.desk ≡ None)) ⊎ ((reply ≡ Refused NothingPublished) × IsSome s.desk)

-- what an `export` line is answered after these entries: where none of them publishes a claim, such a refusal; else the claim that was
-- published last, and the snapshot that it was published for
abbrev pub IsExportReply : List (List ScriptLine) → List EventEntry → Reply → Type 0
IsExportReply scripts front reply =
    (AllByRecursion IsNoPublication front × IsExportRefused (replay scripts front) reply)
    ⊎ ((claim : Claim) × (parts : Parts) × (reply ≡ Exported claim parts) × IsPublishedLast scripts front claim parts)

-- in a legal history each entry of an `export` line is answered so
abbrev pub ExportLinesAreAnswered : Type 0
ExportLinesAreAnswered =
    (scripts : List (List ScriptLine)) (history front after : List EventEntry) (e : EventEntry)
    → IsLegal scripts history → history ≡ front ++ e ∷ after → read_at scripts e ≡ Ok Export → IsExportReply scripts front e.reply
