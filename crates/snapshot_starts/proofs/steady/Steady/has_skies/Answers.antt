use Rattle.std.proofs.Common.{Contains, slice_index_or, below_more, subst, List}
use Rattle.std.specs.Prelude.{HoldsAt}
use Rattle.std.proofs.lemmas.List.{get_or_default}
use Rattle.plan_base.specs.declared.number.TargetNo.{TargetNo}
use Rattle.snapshot_starts.specs.declared.steady.SkyKey.{SkyKey}
use Rattle.snapshot_starts.specs.Mending.{sky_key}
use Rattle.snapshot_starts.proofs.steady.Steady.has_skies.Goals as goal

pub loop-target-preserved : goal.loop-target-preserved
loop-target-preserved c =
    let skies = c.args.self.now.skies.items in
    below_more (λ k. HoldsAt (λ target. Contains skies (sky_key target c.args.site)) c.args.targets.now k) c.loop-target.target-index c.loop-target.invariant
    (λ d. subst (λ (target : TargetNo). Contains skies (sky_key target c.args.site))
    (get_or_default c.args.targets.now c.loop-target.target-index (record { 0 = 0 }) d c.loop-target-test.true)
    (subst (λ (xs : List SkyKey). Contains xs (sky_key (slice_index_or c.args.targets.now c.loop-target.target-index (record { 0 = 0 })) c.args.site))
    c.as_slice-skies.ensures.value (c.has.ensures c.if-not-has.false)))
