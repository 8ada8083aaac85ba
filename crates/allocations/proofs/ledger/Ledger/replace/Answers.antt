use Rattle.std.proofs.Common.{◌≡◌, ◌≢◌, ap, subst, Some, None, arith}
use Rattle.std.specs.Prelude.{OnOk, IfErr}
use Rattle.allocations.specs.declared.fault.LedgerFault.{LedgerFault}
use Rattle.allocations.specs.declared.fault.LedgerFault.TheVariants.{NoMemory}
use Rattle.allocations.specs.Books.{Books, total_seconds}
use Rattle.allocations.specs.Changes.{booked}
use Rattle.allocations.specs.Refusals.{refusal_of}
use Rattle.allocations.specs.Store.{store_books}
use Rattle.allocations.proofs.Changed.{free_seen, freed_seen}
use Rattle.allocations.proofs.ledger.Ledger.replace.Goals as goal

pub settle-requires-clause-nothing : goal.settle-requires-clause-nothing
settle-requires-clause-nothing c = free_seen c.self.inside.store.keys c.self.inside.store.groups c.args.group (rw (← c.self.view_is) at c.requires.free)

pub settle-requires-clause-bound : goal.settle-requires-clause-bound
settle-requires-clause-bound c =
    let same = freed_seen c.self.inside.store c.find_group-index.result c.args.old c.find_group-index.ensures.sound c.find_group-index.ensures.found in
    let bound = rw (← c.self.view_is) at c.requires.bound in
    let total = ap (λ (b : Books). total_seconds b) same in
    omega (arith, bound, total)

pub returns-clause-booked : goal.returns-clause-booked
returns-clause-booked c =
    let same = freed_seen c.self.inside.store c.find_group-index.result c.args.old c.find_group-index.ensures.sound c.find_group-index.ensures.found in
    rw (← c.self.view_is) (subst (λ (b : Books). OnOk c.settle.result
    (store_books c.settle.new.store ≡ booked c.args.group c.args.holds.now c.args.ipp b)) same c.settle.ensures.booked)

pub returns-clause-given : goal.returns-clause-given
returns-clause-given c =
    let same = freed_seen c.self.inside.store c.find_group-index.result c.args.old c.find_group-index.ensures.sound c.find_group-index.ensures.found in
    rw (← c.self.view_is) (subst (λ (b : Books). OnOk c.settle.result (refusal_of b c.args.holds.now c.args.ipp ≡ None)) same c.settle.ensures.given)

pub returns-clause-refused : goal.returns-clause-refused
returns-clause-refused c =
    let same = freed_seen c.self.inside.store c.find_group-index.result c.args.old c.find_group-index.ensures.sound c.find_group-index.ensures.found in
    rw (← c.self.view_is) (subst (λ (b : Books). IfErr c.settle.result
    (λ (fault : LedgerFault). fault ≢ NoMemory → refusal_of b c.args.holds.now c.args.ipp ≡ Some fault)) same c.settle.ensures.refused)
