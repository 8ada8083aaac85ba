use Rattle.std.proofs.Common.{◌≡◌, ◌≢◌, ap, List, ◌≤◌, length, arith}
use Rattle.std.specs.Prelude.{Contains}
use Rattle.std.proofs.lemmas.Result.{IfErr-weaker}
use Rattle.plan_base.specs.Limits.{most_accounts}
use Rattle.allocations.specs.declared.fault.LedgerFault.{LedgerFault}
use Rattle.allocations.specs.declared.fault.LedgerFault.TheVariants.{Full, NoMemory}
use Rattle.allocations.specs.declared.fault.FullOf.TheVariants.{Accounts}
use Rattle.allocations.specs.declared.key.Key.{Key}
use Rattle.allocations.specs.Books.{accounts_of}
use Rattle.allocations.specs.Store.{store_books}
use Rattle.allocations.specs.Ledger.{IsFull}
use Rattle.allocations.proofs.Freed.{unknown_granted}
use Rattle.allocations.proofs.ledger.Ledger.grant.Goals as goal

pub returns-clause-full : goal.returns-clause-full
returns-clause-full c =
    let s = c.self.inside.store in
    let key = c.args.key.now in
    let P : LedgerFault → Type 0 = λ fault. fault ≢ NoMemory → (fault ≡ Full most_accounts Accounts) × (Contains s.keys key → ⊥)
    × (most_accounts ≤ length s.listed) in
    let Q : LedgerFault → Type 0 = λ fault. fault ≢ NoMemory → (fault ≡ Full most_accounts Accounts) × IsFull most_accounts (store_books s).entries key in
    rw (← c.self.view_is) (IfErr-weaker c.grant.result P Q
    (λ fault h ne.
    let f = h ne in
    let many : length s.listed ≡ length (accounts_of (store_books s).entries) = ap (λ (l : List Key). length l) c.self.invariant.listed in
    (f.0, record { new = unknown_granted s.keys s.postings key c.grant.ensures.sound.located f.1; many = omega (arith, many, f.2) }))
    c.grant.ensures.full)
