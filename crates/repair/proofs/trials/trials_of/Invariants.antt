use Rattle.repair.specs.Trials.{AreTrialsOf}
use Rattle.repair.proofs.trials.trials_of.Given as goal

abbrev pub invariant-loop-group : goal.invariant-loop-group
invariant-loop-group l = AreTrialsOf l.snapshot l.group l.trials.items
