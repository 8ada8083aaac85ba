use Rattle.allocations.proofs.Registers.{listed_known}
use Rattle.allocations.proofs.register.Register.get.Goals as goal

pub returns-in-Some-clause-listed : goal.returns-in-Some-clause-listed
returns-in-Some-clause-listed c = rw (← c.self.view_is) (listed_known c.self.inside.keys.items c.self.inside.order.items c.self.invariant)

pub returns-in-Some-clause-all : goal.returns-in-Some-clause-all
returns-in-Some-clause-all c = rw (← c.self.view_is) c.self.invariant.all

pub returns-in-None-clause-listed : goal.returns-in-None-clause-listed
returns-in-None-clause-listed c = rw (← c.self.view_is) (listed_known c.self.inside.keys.items c.self.inside.order.items c.self.invariant)

pub returns-in-None-clause-all : goal.returns-in-None-clause-all
returns-in-None-clause-all c = rw (← c.self.view_is) c.self.invariant.all
