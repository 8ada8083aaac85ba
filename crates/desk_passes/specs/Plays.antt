-- What each step on a word tells whoever makes it.
use Rattle.std.specs.Prelude.{◌≡◌, ◌≢◌, ℕ, [], ◌∷◌, ◌++◌, length, Option, Some}
use Rattle.atomic_table.specs.Table.{Me}
use Rattle.desk_book.specs.Seen.{BookSeen}
use Rattle.desk_passes.specs.declared.seen.PassPlace.TheVariants.{Out}
use Rattle.desk_passes.specs.declared.seen.PassView.{PassView}
use Rattle.desk_passes.specs.declared.seen.SeenEntry.{SeenEntry}
use Rattle.desk_passes.specs.Seen.{log_of, of_caller, BeginsWith}
use Rattle.desk_passes.specs.Knowing.{SeesAll, IsAllOf}
use Rattle.desk_passes.specs.Rule.{place_of}
use Rattle.desk_passes.specs.Steps.{having_seen, with_turn, with_entry, without_turn}

-- a view, and the books that its seat has taken out of the slot
abbrev pub Seated : Type 0
Seated = Me (Option BookSeen) PassView

-- the history goes on from what was seen, and from what was told
pub record GoesOn (v : PassView) (b : BookSeen) : Type 0 where
  pub seen : BeginsWith (log_of b) v.seen
  pub told : BeginsWith (log_of b) v.told

-- all of the book is seen, as it is now
abbrev pub Looks : Seated → ℕ → Seated → Type 0
Looks before word after =
    (b : BookSeen) × (after ≡ (having_seen b before.0, before.1)) × GoesOn before.0 b × SeesAll (having_seen b before.0) b

-- the root looks so, and of a caller whose pass isn't out it knew all entries
abbrev pub RootLooks : Seated → ℕ → Seated → Type 0
RootLooks before word after =
    (b : BookSeen) × (after ≡ (having_seen b before.0, before.1)) × GoesOn before.0 b × SeesAll (having_seen b before.0) b
    × ((caller : ℕ) → place_of before.0.passes caller ≢ Out → IsAllOf before.0 caller (of_caller caller (log_of b)))

-- the turn is taken, and the book with it, all of which is seen
abbrev pub GetsTurn : Seated → Seated → Type 0
GetsTurn before after =
    (b : BookSeen) × (after ≡ (with_turn b before.0, (0, Some b) ∷ before.1)) × GoesOn before.0 b × SeesAll (with_turn b before.0) b

-- the turn is taken where nobody has it
abbrev pub TriesTurn : Seated → ℕ → Seated → Type 0
TriesTurn before word after = (word ≡ 0 → GetsTurn before after) × (word ≢ 0 → after ≡ before)

-- one entry of the view's caller, which the book has more now than was seen, is counted
abbrev pub Counts : Seated → ℕ → Seated → Type 0
Counts before word after =
    (b : BookSeen) × (x : SeenEntry) × (log_of b ≡ before.0.seen ++ x ∷ []) × (before.0.caller ≡ Some x.entry.caller)
    × (before.1 ≡ (0, Some b) ∷ []) × (after ≡ (with_entry b x.entry.caller before.0, before.1)) × (word ≡ length before.0.seen)

-- the turn is given back, and the book with it
abbrev pub GivesTurn : Seated → ℕ → Seated → Type 0
GivesTurn before word after = after ≡ (without_turn before.0, [])
