use Rattle.allocations.proofs.Changed.{free_seen}
use Rattle.allocations.proofs.ledger.Ledger.hold.Goals as goal

pub settle-requires-clause-nothing : goal.settle-requires-clause-nothing
settle-requires-clause-nothing c = free_seen c.self.inside.store.keys c.self.inside.store.groups c.args.group (rw (← c.self.view_is) at c.requires.free)
