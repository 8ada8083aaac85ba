use Rattle.allocations.proofs.Settled.{refunds_fit}
use Rattle.allocations.proofs.booking.free_old.Goals as goal

pub free-requires-clause-fits : goal.free-requires-clause-fits
free-requires-clause-fits c = refunds_fit c.args.store.now c.in-Some.index (rw c.in-Some.is at c.requires.bound)
