use Rattle.std.proofs.Common.{◌≡◌, ◌∙◌, sym, ap, ℕ, Bool, true, false, Some, None, arith}
use Rattle.std.specs.Prelude.{if◌then◌else◌}
use Rattle.allocations.specs.declared.entry.EntryKind.TheVariants.{Grant, Charge, Refund}
use Rattle.allocations.specs.Books.{has_grant, balance_of}
use Rattle.allocations.specs.Store.{store_books}
use Rattle.allocations.proofs.Freed.{unknown_granted}
use Rattle.allocations.proofs.Granted.{granted_at, balance_at, charged_at}
use Rattle.allocations.proofs.ledger.Ledger.balance.Goals as goal

pub returns-in-Ok-clause-balance : goal.returns-in-Ok-clause-balance
returns-in-Ok-clause-balance c =
    let s = c.self.inside.store in
    let key = c.args.key.now in
    let grant : has_grant (store_books s).entries key ≡ true = granted_at s c.in-Ok.place key c.self.invariant.granted c.in-Ok.ensures.found in
    let is = balance_at s c.in-Ok.place key c.find.ensures.sound c.in-Ok.ensures.found in
    let sums = c.sums.ensures.balance in
    let same : c.sums.result.balance ≡ balance_of (store_books s).entries key = omega (arith, is, sums) in
    rw (← c.self.view_is) (ap (λ (n : ℕ). Some n) same ∙ ap (λ (b : Bool). if b then Some (balance_of (store_books s).entries key) else None) (sym grant))

pub returns-in-Ok-clause-sums : goal.returns-in-Ok-clause-sums
returns-in-Ok-clause-sums c =
    let s = c.self.inside.store in
    let key = c.args.key.now in
    let charged = charged_at s Charge c.in-Ok.place key c.find.ensures.sound c.in-Ok.ensures.found in
    let granted = charged_at s Grant c.in-Ok.place key c.find.ensures.sound c.in-Ok.ensures.found in
    let refunded = charged_at s Refund c.in-Ok.place key c.find.ensures.sound c.in-Ok.ensures.found in
    rw (← c.self.view_is, charged, granted, refunded) c.sums.ensures.balance

pub returns-in-Err-clause-balance : goal.returns-in-Err-clause-balance
returns-in-Err-clause-balance c =
    let s = c.self.inside.store in
    let key = c.args.key.now in
    let none : has_grant (store_books s).entries key ≡ false = unknown_granted s.keys s.postings key c.find.ensures.sound.located c.in-Err.ensures.absent in
    rw (← c.self.view_is) (ap (λ (b : Bool). if b then Some (balance_of (store_books s).entries key) else None) (sym none))
