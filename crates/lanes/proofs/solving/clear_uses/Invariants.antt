use Rattle.lanes.proofs.Written.{AreClearedTo}
use Rattle.lanes.proofs.solving.clear_uses.Given as goal

abbrev pub invariant-loop-place : goal.invariant-loop-place
invariant-loop-place l = AreClearedTo l.place l.fn.uses l.uses
