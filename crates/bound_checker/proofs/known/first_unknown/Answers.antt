use Rattle.std.proofs.Common.{sym, subst, ◌∙◌, arith}
use Rattle.std.proofs.lemmas.List.Elements.{AllWithin-more}
use Rattle.std.proofs.lemmas.List.{get_or_default}
use Rattle.plan_base.specs.declared.claim.Placement.{Placement}
use Rattle.plan_base.specs.Requests.{IsKnown}
use Rattle.bound_checker.proofs.Firsts.{first_without}
use Rattle.bound_checker.proofs.known.first_unknown.Goals as goal

pub returns-then-not-is_known : goal.returns-then-not-is_known
returns-then-not-is_known c =
    first_without (λ p. IsKnown c.args.snapshot.now p.request.0) c.args.plan.now c.loop-index.index _ (omega arith)
    (λ known. let bad = sym c.if-not-is_known.true ∙ c.is_known.ensures.1 known in cc) c.loop-index.invariant

pub loop-index-preserved : goal.loop-index-preserved
loop-index-preserved c = AllWithin-more (λ p. IsKnown c.args.snapshot.now p.request.0) c.args.plan.now 0 c.loop-index.index c.loop-index.invariant
    (λ d. subst (λ (p : Placement). IsKnown c.args.snapshot.now p.request.0) (get_or_default c.args.plan.now c.loop-index.index _ d (omega arith))
    (c.is_known.ensures.0 c.if-not-is_known.false))
