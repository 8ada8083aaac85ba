use Rattle.desk_lock.proofs.Lines.{EndsFirst}
use Rattle.desk_lock.proofs.finishing.finish_all.Given as goal

abbrev pub invariant-loop-caller : goal.invariant-loop-caller
invariant-loop-caller g l = EndsFirst l.caller l.fn.book l.book
