use Rattle.std.proofs.Common.{not, arith}
use Rattle.rapid.specs.Held.{goes_by}
use Rattle.rapid.proofs.Steps.{part_fits, part_whole}
use Rattle.rapid.proofs.striking.counted_kept.Goals as goal

pub overflow_add-counted : goal.overflow_add-counted
overflow_add-counted c = part_fits (λ h. not (goes_by c.args.flags.now c.args.start.now h))
    (λ h. h.counted) c.args.held.now c.loop-other.other-index c.loop-other.counted _ c.loop-other-test.true c.requires c.loop-other.invariant

pub returns : goal.returns
returns c = part_whole (λ h. not (goes_by c.args.flags.now c.args.start.now h))
    (λ h. h.counted) c.args.held.now c.loop-other.other-index c.loop-other.counted (omega arith) c.loop-other.invariant
