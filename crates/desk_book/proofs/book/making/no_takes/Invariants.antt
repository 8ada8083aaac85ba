use Rattle.std.proofs.Common.{◌≡◌, None, replicate}
use Rattle.desk_book.proofs.book.making.no_takes.Given as goal

abbrev pub invariant-loop : goal.invariant-loop
invariant-loop l = l.takes.items ≡ replicate l.counter None
