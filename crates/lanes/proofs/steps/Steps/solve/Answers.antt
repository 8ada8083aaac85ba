use Rattle.std.proofs.Common.{arith}
use Rattle.std.proofs.lemmas.Grind.{common_steps}
use Rattle.lanes.proofs.steps.Steps.solve.Goals as goal

pub solve_telescopes-requires : goal.solve_telescopes-requires
solve_telescopes-requires g c = grind (arith, common_steps)

pub invariant_of-self : goal.invariant_of-self
invariant_of-self g c = grind (arith, common_steps)

pub returns-clause-solved : goal.returns-clause-solved
returns-clause-solved g c = grind (arith, common_steps)
