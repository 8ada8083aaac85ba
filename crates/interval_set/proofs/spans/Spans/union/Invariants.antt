use Rattle.std.proofs.Common.{◌+◌, ◌-◌, length}
use Rattle.interval_set.proofs.Merges.{IsUnionSoFar}
use Rattle.interval_set.proofs.spans.Spans.union.Given as goal

abbrev pub invariant-loop-i : goal.invariant-loop-i
invariant-loop-i l = IsUnionSoFar l.mine l.theirs l.i l.j l.union

abbrev pub decreases-loop-i : goal.decreases-loop-i
decreases-loop-i l = length l.mine - l.i + (length l.theirs - l.j)
