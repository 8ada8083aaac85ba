use Rattle.std.proofs.Common.{◌≡◌, map, take}
use Rattle.repair.specs.Trials.{trial_worth}
use Rattle.repair.proofs.trials.trial_worths.Given as goal

abbrev pub invariant-loop-request : goal.invariant-loop-request
invariant-loop-request l = l.worths.items ≡ map (trial_worth l.op) (take l.request-index l.requests)
