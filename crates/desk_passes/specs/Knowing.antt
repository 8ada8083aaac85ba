-- What whoever shares a desk knows of its history.
use Rattle.std.specs.Prelude.{◌≡◌, ◌≢◌, ℕ, ◌<◌, List, length, Some}
use Rattle.plan_io.specs.declared.lines.ScriptLine.{ScriptLine}
use Rattle.desk_book.specs.Seen.{BookSeen}
use Rattle.desk_book.specs.Kept.{IsBook, GoOn}
use Rattle.desk_passes.specs.declared.seen.PassView.{PassView}
use Rattle.desk_passes.specs.declared.seen.SeenEntry.{SeenEntry}
use Rattle.desk_passes.specs.Seen.{lined, log_of, of_caller, open_take, EachHasEntry}

-- the book's history is legal, each of its lines has its entry, and each entry's line stays whatever is sent later
pub record IsFull (b : BookSeen) : Type 0 where
  pub book : IsBook b
  pub each : EachHasEntry b
  pub lines : (longer : List (List ScriptLine)) → GoOn b.scripts longer → lined longer b.history ≡ log_of b

-- the view's own calls are all that the book has of its caller, each once, and so is its open Take
pub record IsOwn (b : BookSeen) (caller : ℕ) (v : PassView) : Type 0 where
  pub low : caller < length b.scripts
  pub own : v.own ≡ of_caller caller (log_of b)
  pub take : v.take ≡ open_take b caller

-- the view has seen all of this book
pub record SeesAll (v : PassView) (b : BookSeen) : Type 0 where
  pub full : IsFull b
  pub seen : v.seen ≡ log_of b
  pub mine : (caller : ℕ) → v.caller ≡ Some caller → IsOwn b caller v

-- what is seen is a whole legal history, of which the caller's entries are its own calls, each once
abbrev pub SeesHistory : PassView → Type 0
SeesHistory v = (b : BookSeen) × SeesAll v b

-- for all that the root knows, these are all entries of a caller whose pass isn't out: the own calls of the pass that it got back,
-- until it has looked, else what it has seen of the caller
pub record IsAllOf (v : PassView) (caller : ℕ) (entries : List SeenEntry) : Type 0 where
  pub got : v.back ≡ Some caller → entries ≡ v.own
  pub seen : v.back ≢ Some caller → entries ≡ of_caller caller v.seen
