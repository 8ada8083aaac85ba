-- Books of which no account holds or is charged more than it has.
use Rattle.std.specs.Prelude.{ℕ, ◌+◌, ◌≤◌}
use Rattle.std.specs.Option.{option_map_or}
use Rattle.allocations.specs.declared.entry.EntryKind.TheVariants.{Grant, Charge, Refund}
use Rattle.allocations.specs.declared.key.Key.{Key}
use Rattle.allocations.specs.Books.{Books, seconds_of, held_of}
use Rattle.desk_core.specs.Desk.{StateSeen}

-- what the groups hold of an account and what it was charged are together at most what it was granted and got back; so they hold
-- at most its balance
abbrev pub IsCovered : Books → Type 0
IsCovered books = (key : Key)
    → held_of books.holds key + seconds_of Charge key books.entries ≤ seconds_of Grant key books.entries + seconds_of Refund key books.entries

-- the seconds of an account that the groups of a state hold, none before its desk is opened
abbrev pub held_at : StateSeen → Key → ℕ
held_at s key = option_map_or (λ d. held_of d.books.holds key) s.desk 0
