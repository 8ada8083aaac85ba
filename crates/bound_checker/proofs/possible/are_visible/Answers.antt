use Rattle.std.proofs.Common.{sym, subst, ◌∙◌, arith, ◌≡◌, false, true}
use Rattle.std.proofs.lemmas.List.{get_or_default}
use Rattle.std.proofs.lemmas.List.Elements.{AllWithin-more, All-from_all_within}
use Rattle.plan_base.specs.declared.number.TargetNo.{TargetNo}
use Rattle.plan_base.specs.BySpans.{IsVisibleThrough}
use Rattle.bound_checker.proofs.possible.are_visible.Goals as goal

pub returns-then-not-is_visible : goal.returns-then-not-is_visible
returns-then-not-is_visible c = (
  λ yes. absurd (cc),
  λ all. sym c.if-not-is_visible.true ∙ c.is_visible.ensures.1 (all c.loop-target.target-index _ c.loop-target-test.true),
)

pub loop-target-preserved : goal.loop-target-preserved
loop-target-preserved c =
    AllWithin-more (λ (target : TargetNo). IsVisibleThrough c.args.parts.now target.0 c.args.site.0 c.args.observed.from.0 c.args.observed.to.0)
    c.args.targets.now 0 c.loop-target.target-index c.loop-target.invariant
    (λ d. subst (λ (target : TargetNo). IsVisibleThrough c.args.parts.now target.0 c.args.site.0 c.args.observed.from.0 c.args.observed.to.0)
    (get_or_default c.args.targets.now c.loop-target.target-index _ d c.loop-target-test.true)
    (c.is_visible.ensures.0 c.if-not-is_visible.false))
