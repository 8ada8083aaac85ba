use Rattle.std.proofs.Common.{◌≡◌, take, cond, not, sum_by}
use Rattle.rapid.specs.Held.{goes_by}
use Rattle.rapid.proofs.striking.counted_kept.Given as goal

abbrev pub invariant-loop-other : goal.invariant-loop-other
invariant-loop-other l = l.counted ≡ sum_by (λ h. cond (not (goes_by l.flags l.start h)) h.counted 0) (take l.other-index l.held)
