use Rattle.std.proofs.Common.{subst}
use Rattle.desk_book.specs.Kept.{IsBook}
use Rattle.desk_book.specs.Inside.{seen_book}
use Rattle.desk_book.proofs.Sound.{book_of}
use Rattle.desk_book.proofs.book.Book.callers.Goals as goal

pub returns-clause-book : goal.returns-clause-book
returns-clause-book c = subst IsBook c.self.view_is (book_of (seen_book c.self.inside) c.self.invariant.sound)
