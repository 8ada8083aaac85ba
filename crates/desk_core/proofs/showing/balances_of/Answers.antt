use Rattle.std.proofs.Common.{sym, ◌∙◌, ap, slice_get}
use Rattle.allocations.specs.Books.{accounts_of}
use Rattle.desk_core.specs.Showing.{account_balance}
use Rattle.desk_core.proofs.Shown.{next_made, all_made, slice_contains}
use Rattle.desk_core.proofs.showing.balances_of.Goals as goal

pub balance_of-requires : goal.balance_of-requires
balance_of-requires c = (c.in-Some.ensures.complete c.in-Some.key.now).0
    (slice_contains (accounts_of c.args.ledger.now.books.entries) c.len.result c.in-Some.key.now (sym c.in-Some.ensures.account))

pub loop-key-preserved : goal.loop-key-preserved
loop-key-preserved c =
    let books = c.args.ledger.now.books in
    next_made (account_balance books) (accounts_of books.entries) c.loop-key.balances c.push.new.self c.in-Some.key.now c.in_ok-balance_of.field-0 c.len.result
    c.loop-key.invariant c.len.ensures c.in-Some.ensures.account c.in_ok-balance_of.ensures c.in_ok-push.ensures.ok

pub returns : goal.returns
returns c =
    let books = c.args.ledger.now.books in
    all_made (account_balance books) (accounts_of books.entries) c.loop-key.balances c.loop-key.invariant
    (ap (slice_get (accounts_of books.entries)) (sym c.len.ensures) ∙ sym c.in_default.ensures.account)
