use Rattle.std.proofs.Common.{◌≡◌, take, cond, sum_by}
use Rattle.rapid.specs.Held.{goes_by}
use Rattle.rapid.proofs.striking.worth_gone.Given as goal

abbrev pub invariant-loop-other : goal.invariant-loop-other
invariant-loop-other l = l.worth ≡ sum_by (λ h. cond (goes_by l.flags l.start h) h.worth 0) (take l.other-index l.held)
