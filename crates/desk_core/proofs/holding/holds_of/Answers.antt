use Rattle.std.proofs.Common.{arith}
use Rattle.desk_core.proofs.Needs.{held_at_most}
use Rattle.desk_core.proofs.holding.holds_of.Goals as goal

pub held_for-seconds-requires : goal.held_for-seconds-requires
held_for-seconds-requires c = omega (arith, held_at_most c.in-Some.key c.args.needs.now)
