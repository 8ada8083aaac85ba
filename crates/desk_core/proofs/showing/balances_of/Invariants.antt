use Rattle.std.proofs.Common.{◌≡◌, map, ◌-◌, length, take}
use Rattle.allocations.specs.Books.{accounts_of}
use Rattle.desk_core.specs.Showing.{account_balance}
use Rattle.desk_core.proofs.showing.balances_of.Given as goal

abbrev pub invariant-loop-key : goal.invariant-loop-key
invariant-loop-key l = l.balances ≡ map (account_balance l.ledger.books) (take (length l.balances) (accounts_of l.ledger.books.entries))

abbrev pub decreases-loop-key : goal.decreases-loop-key
decreases-loop-key l = length (accounts_of l.ledger.books.entries) - length l.balances
