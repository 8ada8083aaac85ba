use Rattle.std.proofs.Common.{◌≡◌, [], replicate}
use Rattle.desk_book.proofs.book.making.no_scripts.Given as goal

abbrev pub invariant-loop : goal.invariant-loop
invariant-loop l = l.scripts.items ≡ replicate l.counter []
