use Rattle.std.proofs.Common.{take, length}
use Rattle.rapid.specs.Held.{AreStruck}
use Rattle.rapid.proofs.striking.strike_ands.Given as goal

abbrev pub invariant-loop-other : goal.invariant-loop-other
invariant-loop-other l = AreStruck l.start (take l.other-index l.held) (length l.flags) l.flags
