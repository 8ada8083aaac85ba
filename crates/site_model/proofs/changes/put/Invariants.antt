use Rattle.site_model.proofs.Closings.{IsPutSoFar}
use Rattle.site_model.proofs.changes.put.Given as goal

abbrev pub invariant-loop-change : goal.invariant-loop-change
invariant-loop-change l =
    (goal.iterator-loop-change).can_next l.change-iterator ×
    (goal.iterator-loop-change).is_finite l.change-iterator ×
    IsPutSoFar l.fn.closures.items l.fn.changes.items l.closures.items l.change-iterator.rest.items
