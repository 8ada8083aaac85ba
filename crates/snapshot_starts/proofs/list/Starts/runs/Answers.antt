use Rattle.std.proofs.Common.{sym, subst, List}
use Rattle.plan_base.specs.declared.claim.Placement.{Placement}
use Rattle.snapshot_starts.specs.Runs.{AreRuns}
use Rattle.snapshot_starts.proofs.RunOrder.{are_runs}
use Rattle.snapshot_starts.proofs.list.Starts.runs.Goals as goal

pub returns : goal.returns
returns c =
    subst (AreRuns c.args.self.now) (sym c.as_slice.ensures.value)
    (subst (λ (starts : List Placement). AreRuns starts c.self.inside.runs.items) c.self.view_is
    (are_runs c.self.inside.runs.items c.self.invariant.can_keep))
