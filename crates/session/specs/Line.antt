-- What one line does, and what it adds to the replies.
use Rattle.std.specs.Prelude.{◌≡◌, ℕ, ◌⊎◌, List, [], ◌∷◌, ◌++◌, Result, Ok, Err}
use Rattle.std.specs.List.{AllByRecursion}
use Rattle.std.specs.declared.alloc.AllocError.{AllocError}
use Rattle.plan_base.specs.declared.claim.Claim.{Claim}
use Rattle.desk_events.specs.declared.command.Command.{Command}
use Rattle.desk_events.specs.declared.entry.EventEntry.{EventEntry}
use Rattle.desk_events.specs.declared.entry.What.TheVariants.{Line, Take, Publish}
use Rattle.desk_events.specs.declared.fault.CommandFault.{CommandFault}
use Rattle.desk_events.specs.declared.reply.Reply.{Reply}
use Rattle.desk_events.specs.declared.reply.Reply.TheVariants.{Taken, Published}
use Rattle.desk_events.specs.Entry.{text_of_entry, text_of_history}
use Rattle.desk_events.specs.Laws.{IsTelling}
use Rattle.desk_core.specs.Desk.{StateSeen}
use Rattle.desk_core.specs.History.{IsPlanning, IsPublication, after_publish}
use Rattle.desk_book.specs.Claims.{IsDeskClaim}
use Rattle.desk_book.specs.Doing.{IsStepDone}

-- what the Publish of a plan that is sought over this state replies: the claim, which is bounded and planned, or how many possible
-- starts there are, where they are too many; nothing was accepted since, so it isn't stale
pub record IsPlanReply (s : StateSeen) (reply : Reply) : Type 0 where
  pub publication : IsPublication s s.version reply
  pub claims : (claim : Claim) → reply ≡ Published claim → IsDeskClaim s claim

-- the one entry of a line that is a step
abbrev pub step_entry : StateSeen → ℕ → Reply → EventEntry
step_entry s n reply = record { caller = 0; line = n; what = Line; version = s.version; reply = reply }

-- the first entry of a plan, that of its Take
abbrev pub take_entry : StateSeen → ℕ → EventEntry
take_entry s n = record { caller = 0; line = n; what = Take; version = s.version; reply = Taken }

-- the second entry of a plan, that of its Publish, which tells what was found
abbrev pub publish_entry : StateSeen → ℕ → Reply → EventEntry
publish_entry s n reply = record { caller = 0; line = n; what = Publish; version = s.version; reply = reply }

-- the entries of line n, which says this, and the state that they leave
abbrev pub DoesLine : StateSeen → ℕ → Result Command CommandFault → List EventEntry → StateSeen → Type 0
DoesLine s n read es t =
    ((reply : Reply) × IsStepDone s read reply t × (es ≡ step_entry s n reply ∷ []))
    ⊎ (IsPlanning s read
    × ((reply : Reply) × IsPlanReply s reply × (es ≡ take_entry s n ∷ publish_entry s n reply ∷ []) × (t ≡ after_publish s reply)))

-- a line that says this is done, with this reply at last, that of the Publish where it asks for a plan, and leaves the state t
abbrev pub RepliesAtLast : StateSeen → Result Command CommandFault → Reply → StateSeen → Type 0
RepliesAtLast s read reply t = IsStepDone s read reply t ⊎ (IsPlanning s read × IsPlanReply s reply × (t ≡ after_publish s reply))

-- the first of them, or all
abbrev pub BeginsLine : StateSeen → ℕ → Result Command CommandFault → List EventEntry → Type 0
BeginsLine s n read es =
    (es ≡ []) ⊎ ((IsPlanning s read × (es ≡ take_entry s n ∷ [])) ⊎ ((t : StateSeen) × DoesLine s n read es t))

-- the replies get the texts of all entries of the line, or of the first of them where memory is wanting; each text tells its entry
abbrev pub AddsLine : StateSeen → StateSeen → ℕ → Result Command CommandFault → List ℕ → List ℕ → Result (Unit {0}) AllocError → Type 0
AddsLine s t n read old new (Ok done) = (es : List EventEntry) × DoesLine s n read es t × (new ≡ old ++ text_of_history es) × AllByRecursion IsTelling es
AddsLine s t n read old new (Err error) = (es : List EventEntry) × BeginsLine s n read es × (new ≡ old ++ text_of_history es) × AllByRecursion IsTelling es

-- the replies get the text of a Publish over the state s, which leaves the state t, or nothing where memory is wanting
abbrev pub AddsPublish : StateSeen → StateSeen → ℕ → List ℕ → List ℕ → Result (Unit {0}) AllocError → Type 0
AddsPublish s t n old new (Ok done) =
    (reply : Reply) × IsPlanReply s reply × (t ≡ after_publish s reply) × (new ≡ old ++ text_of_entry (publish_entry s n reply))
    × IsTelling (publish_entry s n reply)
AddsPublish s t n old new (Err error) = new ≡ old
