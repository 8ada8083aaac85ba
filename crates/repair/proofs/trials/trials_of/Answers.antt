use Rattle.std.proofs.Common.{◌+◌, sym, subst}
use Rattle.repair.specs.Trials.{AreTrialsOf}
use Rattle.repair.proofs.Made.{trials_more}
use Rattle.repair.proofs.trials.trials_of.Goals as goal

pub loop-group-preserved : goal.loop-group-preserved
loop-group-preserved c =
    subst (AreTrialsOf c.args.snapshot.now (c.loop-group.group + 1)) (sym c.in_ok-push.ensures.items)
    (trials_more c.args.snapshot.now c.loop-group.group c.loop-group.trials.items c.in_ok-trial_of.field-0 c.loop-group.invariant
    c.in_ok-trial_of.ensures)
