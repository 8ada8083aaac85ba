use Rattle.std.proofs.Common.{arith}
use Rattle.rapid.specs.Held.{goes_by}
use Rattle.rapid.proofs.Steps.{part_fits, part_whole}
use Rattle.rapid.proofs.striking.worth_gone.Goals as goal

pub overflow_add-worth : goal.overflow_add-worth
overflow_add-worth c = part_fits (goes_by c.args.flags.now c.args.start.now)
    (λ h. h.worth) c.args.held.now c.loop-other.other-index c.loop-other.worth _ c.loop-other-test.true c.requires c.loop-other.invariant

pub returns : goal.returns
returns c = part_whole (goes_by c.args.flags.now c.args.start.now) (λ h. h.worth) c.args.held.now c.loop-other.other-index c.loop-other.worth
    (omega arith) c.loop-other.invariant
