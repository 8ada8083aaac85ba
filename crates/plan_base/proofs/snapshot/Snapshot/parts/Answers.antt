use Rattle.plan_base.proofs.Orderly.{orderly}
use Rattle.plan_base.proofs.snapshot.Snapshot.parts.Goals as goal

pub returns-clause-orderly : goal.returns-clause-orderly
returns-clause-orderly c = rw (← c.self.view_is) (orderly c.self.inside.parts c.self.invariant.0)
