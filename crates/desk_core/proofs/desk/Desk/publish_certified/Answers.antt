use Rattle.std.proofs.Common.{sym, subst, List}
use Rattle.plan_base.specs.declared.parts.Parts.{Parts}
use Rattle.plan_base.specs.Verdict.{IsCertified}
use Rattle.desk_runs.specs.declared.observation.Observation.{Observation}
use Rattle.desk_runs.specs.Adding.{CanPublish}
use Rattle.desk_core.specs.Desk.{seen}
use Rattle.desk_core.proofs.Publications.{can_publish}
use Rattle.desk_core.proofs.desk.Desk.publish_certified.Goals as goal

pub publish-requires : goal.publish-requires
publish-requires c =
    let d = seen c.args.self.now in
    let certified = subst (λ (s : Parts). IsCertified s c.args.claim.now) c.requires.snapshot c.requires.certified in
    subst (λ (o : List Observation). CanPublish o d.progress) (sym c.in_ok-observations.ensures.observations)
    (can_publish c.args.snapshot.version d c.args.claim.now c.requires.desk certified.feasible)
