-- How a ledger keeps its books.
use Rattle.std.specs.Prelude.{◌≡◌}
use Rattle.allocations.specs.declared.ledger.Ledger.TheInside.{Inside}
use Rattle.allocations.specs.Books.{accounts_of}
use Rattle.allocations.specs.Store.{store_books, IsGranted}
use Rattle.allocations.specs.Ledger.{LedgerSeen}

-- what is seen of the fields
abbrev pub seen_ledger : Inside → LedgerSeen
seen_ledger a = record { books = store_books a.store; spare = a.store.spare }

-- each account has a grant, and the accounts are listed in their order
pub record IsLedger (a : Inside) : Type 0 where
  pub granted : IsGranted a.store
  pub listed : a.store.listed ≡ accounts_of (store_books a.store).entries
