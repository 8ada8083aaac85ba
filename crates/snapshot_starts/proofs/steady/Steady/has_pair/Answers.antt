use Rattle.std.proofs.Common.{List, subst, All, Contains}
use Rattle.plan_base.specs.declared.number.TargetNo.{TargetNo}
use Rattle.snapshot_starts.specs.Mending.{sky_key}
use Rattle.snapshot_starts.proofs.steady.Steady.has_pair.Goals as goal

pub returns-clause-skies : goal.returns-clause-skies
returns-clause-skies c =
    λ yes. subst (λ (ts : List TargetNo). All (λ target. Contains c.args.self.now.skies.items (sky_key target c.args.site)) ts) c.as_slice-3.ensures
    (c.has_skies.ensures yes)
