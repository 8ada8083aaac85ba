use Rattle.std.proofs.Common.{◌≡◌, drop}
use Rattle.plan_base.specs.Faults.{first_unfit}
use Rattle.plan_base.proofs.FaultLemmas.{unfit_from}
use Rattle.plan_base.proofs.build.first_unfit.Given as goal

abbrev pub invariant-loop-telescope : goal.invariant-loop-telescope
invariant-loop-telescope l = unfit_from l.count l.last (drop l.telescope-index l.telescopes) ≡ first_unfit l.count l.telescopes
