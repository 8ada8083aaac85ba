-- What is done of the lines that no thread did.
use Rattle.std.specs.Prelude.{◌≡◌, ◌≢◌, ℕ, ◌+◌, List, ◌++◌, None}
use Rattle.desk_events.specs.declared.entry.EventEntry.{EventEntry}
use Rattle.desk_book.specs.declared.step.BookStep.{BookStep}
use Rattle.desk_book.specs.declared.step.BookStep.TheVariants as step
use Rattle.desk_book.specs.Seen.{BookSeen, take_of, done_of, IsOver}
use Rattle.lanes.specs.Solving.{IsInRange}

-- what was taken, if anything, is to be sought with settings in their ranges
abbrev pub IsStepInRange : BookStep → Type 0
IsStepInRange (step.Taken taken) = IsInRange taken.settings
IsStepInRange _ = Unit {0}

-- of the other callers nothing is done
abbrev pub KeepsOthers : BookSeen → ℕ → BookSeen → Type 0
KeepsOthers b caller c =
    (other : ℕ) → other ≢ caller → (take_of c.takes other ≡ take_of b.takes other) × (done_of other c.history ≡ done_of other b.history)

-- the entries that were there stay, and others may follow them
abbrev pub KeepsEntries : BookSeen → BookSeen → Type 0
KeepsEntries b c = (more : List EventEntry) × (c.history ≡ b.history ++ more)

-- one line more of the caller is done, or the rest of one
pub record EndsLine (b : BookSeen) (caller : ℕ) (c : BookSeen) : Type 0 where
  pub scripts : c.scripts ≡ b.scripts
  pub shut : take_of c.takes caller ≡ None
  pub done : done_of caller c.history ≡ done_of caller b.history + 1
  pub entries : KeepsEntries b c
  pub others : KeepsOthers b caller c

-- all lines of the caller are done
pub record EndsScript (b : BookSeen) (caller : ℕ) (c : BookSeen) : Type 0 where
  pub scripts : c.scripts ≡ b.scripts
  pub over : IsOver c caller
  pub entries : KeepsEntries b c
  pub others : KeepsOthers b caller c

-- all lines of all callers are done
pub record EndsAll (b c : BookSeen) : Type 0 where
  pub scripts : c.scripts ≡ b.scripts
  pub over : (caller : ℕ) → IsOver c caller
  pub entries : KeepsEntries b c
