use Rattle.desk_lock.proofs.Lines.{GoesOn, left_of}
use Rattle.desk_lock.proofs.finishing.finish_caller.Given as goal

abbrev pub invariant-loop-book : goal.invariant-loop-book
invariant-loop-book g l = GoesOn l.fn.book l.caller l.book

abbrev pub decreases-loop-book : goal.decreases-loop-book
decreases-loop-book g l = left_of l.caller l.book
