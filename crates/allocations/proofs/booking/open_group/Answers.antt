use Rattle.allocations.specs.Store.{empty_group}
use Rattle.allocations.proofs.Booked.{opened_state, puts_there, opened_gap, puts_gap}
use Rattle.allocations.proofs.booking.open_group.Goals as goal

pub returns-in-Ok-clause-state : goal.returns-in-Ok-clause-state
returns-in-Ok-clause-state c = opened_state c.args.store.now.groups c.args.group c.in-Ok.index c.group_index.ensures.sound.grouped.rising
    c.in-Ok.ensures.found c.requires.nothing

pub returns-in-Ok-clause-puts : goal.returns-in-Ok-clause-puts
returns-in-Ok-clause-puts c = puts_there c.args.store.now.groups c.args.group c.in-Ok.index c.group_index.ensures.sound.grouped.rising c.in-Ok.ensures.found

pub returns-in-Err-clause-state : goal.returns-in-Err-clause-state
returns-in-Err-clause-state c = rw c.open.ensures (opened_gap c.args.store.now.groups c.args.group c.in-Err.index c.in-Err.ensures.found)

pub returns-in-Err-clause-puts : goal.returns-in-Err-clause-puts
returns-in-Err-clause-puts c = rw c.open.ensures
    (puts_gap c.args.store.now.groups c.args.group c.in-Err.index c.in-Err.ensures.found (empty_group c.args.group))
