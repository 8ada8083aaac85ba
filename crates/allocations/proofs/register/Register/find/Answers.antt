use Rattle.allocations.specs.Key.{key_cmp}
use Rattle.allocations.specs.Register.{keys_of}
use Rattle.allocations.proofs.Keys.{key_cmp_total}
use Rattle.allocations.proofs.Order.{insert_key-known}
use Rattle.allocations.proofs.Registers.{unknown}
use Rattle.allocations.proofs.register.Register.find.Goals as goal

pub returns-in-Err-clause-absent : goal.returns-in-Err-clause-absent
returns-in-Err-clause-absent c =
    rw (← c.self.view_is) (unknown c.self.inside.keys.items c.self.inside.order.items c.args.key.now c.in-Err.index c.self.invariant
    (rw c.as_slice.ensures.value at c.in-Err.ensures.found))

pub returns-in-Ok-clause-listed : goal.returns-in-Ok-clause-listed
returns-in-Ok-clause-listed c =
    rw (← c.self.view_is) (insert_key-known key_cmp key_cmp_total
    (keys_of c.self.inside.order.items) c.args.key.now c.in-Ok.index c.self.invariant.rising
    (rw c.as_slice.ensures.value at c.in-Ok.ensures.found))
