use Rattle.std.proofs.Common.{◌≡◌, drop, map}
use Rattle.plan_base.specs.Snapshot.{first_some}
use Rattle.plan_base.specs.Faults.{first_unfit}
use Rattle.plan_base.proofs.build.unfit_in.Given as goal

abbrev pub invariant-loop-request : goal.invariant-loop-request
invariant-loop-request l = first_some (map (λ q. first_unfit l.count q.telescopes) (drop l.request-index l.group.requests))
    ≡ first_some (map (λ q. first_unfit l.count q.telescopes) l.group.requests)
