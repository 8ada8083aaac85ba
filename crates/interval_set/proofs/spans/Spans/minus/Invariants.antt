use Rattle.std.proofs.Common.{◌+◌, ◌-◌, length}
use Rattle.interval_set.proofs.Merges.{IsDifferenceSoFar}
use Rattle.interval_set.proofs.spans.Spans.minus.Given as goal

abbrev pub invariant-loop-i : goal.invariant-loop-i
invariant-loop-i l = IsDifferenceSoFar l.mine l.theirs l.i l.j l.gap_from.0 l.difference

abbrev pub decreases-loop-i : goal.decreases-loop-i
decreases-loop-i l = length l.mine - l.i + (length l.theirs - l.j)
