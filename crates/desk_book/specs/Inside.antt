-- How a book is kept.
use Rattle.desk_book.specs.declared.book.Book.TheInside.{Inside}
use Rattle.desk_book.specs.Kept.{IsSound, AreCounted}
use Rattle.desk_book.specs.Seen.{BookSeen}

-- the book as it is seen
abbrev pub seen_book : Inside → BookSeen
seen_book a = record { scripts = a.scripts.items; history = a.history.items; state = a.state; takes = a.takes.items }

-- it is one, and its lines are counted
pub record IsInside (a : Inside) : Type 0 where
  pub sound : IsSound (seen_book a)
  pub counted : AreCounted (seen_book a) a.done.items
