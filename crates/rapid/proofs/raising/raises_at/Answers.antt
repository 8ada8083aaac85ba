use Rattle.std.proofs.Common.{arith}
use Rattle.std.proofs.lemmas.Grind.{common_steps}
use Rattle.rapid.proofs.raising.raises_at.Goals as goal

pub bounds-flags-index : goal.bounds-flags-index
bounds-flags-index c = grind (arith, common_steps)

pub returns-then-not-flags-index : goal.returns-then-not-flags-index
returns-then-not-flags-index c = grind (arith, common_steps)

pub gain_of-requires-clause-after : goal.gain_of-requires-clause-after
gain_of-requires-clause-after c = grind (arith, common_steps)
