-- What is so while a pass has the turn.
use Rattle.std.specs.Prelude.{◌≡◌, ◌≢◌, ℕ, [], ◌∷◌, ◌++◌, length, Some, None}
use Rattle.desk_book.specs.Seen.{BookSeen}
use Rattle.desk_book.specs.declared.step.BookCall.{BookCall}
use Rattle.desk_book.specs.declared.step.BookCall.TheVariants as call
use Rattle.desk_passes.specs.declared.holders.CallAnswer.{CallAnswer}
use Rattle.desk_passes.specs.declared.holders.CallAnswer.TheVariants as answer
use Rattle.desk_passes.specs.declared.holders.Receipt.{Receipt}
use Rattle.desk_passes.specs.declared.seen.PassView.{PassView}
use Rattle.desk_passes.specs.declared.seen.SeenEntry.{SeenEntry}
use Rattle.desk_passes.specs.Seen.{log_of, open_take}
use Rattle.desk_passes.specs.Knowing.{IsFull, SeesAll}
use Rattle.desk_passes.specs.Plays.{Seated, GoesOn}
use Rattle.desk_passes.specs.Steps.{with_turn}

-- the turn is taken, and the book was taken out of the slot
abbrev pub HasBook : Seated → BookSeen → Seated → Type 0
HasBook before b after = (after ≡ (with_turn b before.0, (0, None) ∷ [])) × GoesOn before.0 b × SeesAll (with_turn b before.0) b

-- the book c is the book b with one entry of a caller more
pub record HasOneMore (b : BookSeen) (caller : ℕ) (c : BookSeen) : Type 0 where
  pub full : IsFull c
  pub callers : length c.scripts ≡ length b.scripts
  pub entry : SeenEntry
  pub mine : entry.entry.caller ≡ caller
  pub log : log_of c ≡ log_of b ++ entry ∷ []
  pub others : (other : ℕ) → other ≢ caller → open_take c other ≡ open_take b other

-- the book that the view has the turn of has one entry of its caller more
abbrev pub HasEntry : PassView → ℕ → BookSeen → Type 0
HasEntry v caller c = (b : BookSeen) × (v.turn ≡ Some b) × (v.caller ≡ Some caller) × HasOneMore b caller c

-- what a call answers, with its receipt
abbrev pub answered : BookCall → Receipt → CallAnswer
answered call.Replied receipt = answer.Replied receipt
answered (call.Taken taken) receipt = answer.Taken taken receipt
