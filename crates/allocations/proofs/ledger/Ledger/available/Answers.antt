use Rattle.std.proofs.Common.{◌≡◌, ◌∙◌, sym, ap, ℕ, Bool, true, false, ◌-◌, Some, None, arith}
use Rattle.std.specs.Prelude.{if◌then◌else◌}
use Rattle.allocations.specs.Books.{has_grant, available_of}
use Rattle.allocations.specs.Store.{store_books}
use Rattle.allocations.proofs.Freed.{unknown_granted}
use Rattle.allocations.proofs.Granted.{granted_at, balance_at, held_of_at}
use Rattle.allocations.proofs.ledger.Ledger.available.Goals as goal

pub returns-in-Ok-clause-available : goal.returns-in-Ok-clause-available
returns-in-Ok-clause-available c =
    let s = c.self.inside.store in
    let key = c.args.key.now in
    let grant : has_grant (store_books s).entries key ≡ true = granted_at s c.in-Ok.place key c.self.invariant.granted c.in-Ok.ensures.found in
    let is = balance_at s c.in-Ok.place key c.find.ensures.sound c.in-Ok.ensures.found in
    let held = held_of_at s c.in-Ok.place key c.find.ensures.sound c.in-Ok.ensures.found in
    let balance = c.sums-sums.ensures.balance in
    let holds = c.sums-sums.ensures.held in
    let same : c.sums-sums.result.balance - c.sums-sums.result.held ≡ available_of (store_books s) key = omega (arith, is, held, balance, holds) in
    rw (← c.self.view_is) (ap (λ (n : ℕ). Some n) same ∙ ap (λ (b : Bool). if b then Some (available_of (store_books s) key) else None) (sym grant))

pub returns-in-Ok-clause-covered : goal.returns-in-Ok-clause-covered
returns-in-Ok-clause-covered c =
    let s = c.self.inside.store in
    let key = c.args.key.now in
    let is = balance_at s c.in-Ok.place key c.find.ensures.sound c.in-Ok.ensures.found in
    let held = held_of_at s c.in-Ok.place key c.find.ensures.sound c.in-Ok.ensures.found in
    let balance = c.sums-sums.ensures.balance in
    let holds = c.sums-sums.ensures.held in
    let covered = c.sums-sums.ensures.covered in
    rw (← c.self.view_is) (omega (arith, is, held, balance, holds, covered))

pub returns-in-Err-clause-available : goal.returns-in-Err-clause-available
returns-in-Err-clause-available c =
    let s = c.self.inside.store in
    let key = c.args.key.now in
    let none : has_grant (store_books s).entries key ≡ false = unknown_granted s.keys s.postings key c.find.ensures.sound.located c.in-Err.ensures.absent in
    rw (← c.self.view_is) (ap (λ (b : Bool). if b then Some (available_of (store_books s) key) else None) (sym none))
