use Rattle.rapid.proofs.Writing.{AreLinesSoFar}
use Rattle.rapid.proofs.run.insert_each.Given as goal

abbrev pub invariant-loop-group : goal.invariant-loop-group
invariant-loop-group l =
    (goal.iterator-loop-group).can_next l.group-iterator ×
    (goal.iterator-loop-group).is_finite l.group-iterator ×
    AreLinesSoFar l.fn.rapid l.fn.groups l.group-iterator.rest.items l.rapid l.fn.text.items l.text.items
