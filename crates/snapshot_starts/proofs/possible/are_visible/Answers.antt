use Rattle.std.proofs.Common.{List, slice_index_or, below_more, refl, subst, sym, ◌∙◌, arith}
use Rattle.std.specs.Prelude.{All, HoldsAt}
use Rattle.std.proofs.lemmas.Bool.{false≢true}
use Rattle.std.proofs.lemmas.List.{get_or_default}
use Rattle.plan_base.specs.declared.number.TargetNo.{TargetNo}
use Rattle.plan_base.specs.declared.parts.Sky.{Sky}
use Rattle.plan_base.proofs.Skies.{IsSeen}
use Rattle.plan_base.specs.Snapshot.{IsSortedApart}
use Rattle.plan_base.specs.Skies.{SkiesRise}
use Rattle.snapshot_starts.proofs.possible.are_visible.Goals as goal

pub returns-then-not-is_visible : goal.returns-then-not-is_visible
returns-then-not-is_visible c =
    let a = c.args.times.from.0 in
    let b = c.args.times.to.0 in
    let site = c.args.site.0 in (
      λ yes. absurd (false≢true yes),
      λ all. sym c.if-not-is_visible.true
          ∙ c.is_visible.ensures.1 (subst
          (λ (skies : List Sky). IsSeen skies (slice_index_or c.args.targets.now c.loop-target.target-index (record { 0 = 0 })).0 site a b)
          (sym c.as_slice.ensures) (all c.loop-target.target-index (record { 0 = 0 }) c.loop-target-test.true)),
    )

pub loop-target-preserved : goal.loop-target-preserved
loop-target-preserved c =
    let a = c.args.times.from.0 in
    let b = c.args.times.to.0 in
    let site = c.args.site.0 in
    below_more (λ k. HoldsAt (λ target. IsSeen c.args.parts.now.skies target.0 site a b) c.args.targets.now k)
    c.loop-target.target-index c.loop-target.invariant
    (λ d. subst (λ (target : TargetNo). IsSeen c.args.parts.now.skies target.0 site a b)
    (get_or_default c.args.targets.now c.loop-target.target-index (record { 0 = 0 }) d c.loop-target-test.true)
    (subst (λ (skies : List Sky). IsSeen skies (slice_index_or c.args.targets.now c.loop-target.target-index (record { 0 = 0 })).0 site a b)
    c.as_slice.ensures (c.is_visible.ensures.0 c.if-not-is_visible.false)))

pub returns : goal.returns
returns c = (λ _ k d l. c.loop-target.invariant k (omega arith) d, λ _. refl)

pub is_visible-requires-clause-rise : goal.is_visible-requires-clause-rise
is_visible-requires-clause-rise c = subst SkiesRise (sym c.as_slice.ensures) c.requires.skies_rise

pub is_visible-requires-clause-apart : goal.is_visible-requires-clause-apart
is_visible-requires-clause-apart c = subst (All (λ sky. IsSortedApart sky.spans)) (sym c.as_slice.ensures) c.requires.skies
