use Rattle.std.proofs.Common.{ap, ◌∙◌, Some, None}
use Rattle.std.specs.Prelude.{if◌then◌else◌}
use Rattle.std.specs.Option.{unwrap_or}
use Rattle.allocations.specs.Books.{balance_of, available_of}
use Rattle.desk_core.proofs.showing.balance_of.Goals as goal

pub returns : goal.returns
returns c =
    let books = c.args.ledger.now.books in
    let key = c.args.key.now in
    let clone = c.in_ok-clone.ensures.cases in
    let balance = c.unwrap_or.ensures
    ∙ ap (λ o. unwrap_or o 0) (c.balance.ensures.balance ∙ ap (λ b. if b then Some (balance_of books.entries key) else None) c.requires) in
    let available = c.unwrap_or-2.ensures
    ∙ ap (λ o. unwrap_or o 0) (c.available.ensures.available ∙ ap (λ b. if b then Some (available_of books key) else None) c.requires) in
    λ j. record { key = record { proposal = clone.0 j; account = clone.1.0 j; instrument = clone.1.1 j }; balance = balance j; available = available j }
