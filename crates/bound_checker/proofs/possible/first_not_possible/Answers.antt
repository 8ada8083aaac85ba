use Rattle.std.proofs.Common.{sym, subst, ◌∙◌, arith}
use Rattle.std.proofs.lemmas.List.{get_or_default}
use Rattle.std.proofs.lemmas.List.Elements.{AllWithin-more}
use Rattle.plan_base.specs.Starts.{IsPossibleStart}
use Rattle.bound_checker.proofs.Firsts.{first_without}
use Rattle.bound_checker.proofs.possible.first_not_possible.Goals as goal

pub returns-then-not-is_possible : goal.returns-then-not-is_possible
returns-then-not-is_possible c =
    first_without (IsPossibleStart c.args.snapshot.now) c.args.plan.now c.loop-index.index _ (omega arith)
    (λ possible. let bad = sym c.if-not-is_possible.true ∙ c.is_possible.ensures.1 possible in cc) c.loop-index.invariant

pub loop-index-preserved : goal.loop-index-preserved
loop-index-preserved c =
    AllWithin-more (IsPossibleStart c.args.snapshot.now) c.args.plan.now 0 c.loop-index.index c.loop-index.invariant
    (λ d. subst (IsPossibleStart c.args.snapshot.now) (get_or_default c.args.plan.now c.loop-index.index _ d (omega arith))
    (c.is_possible.ensures.0 c.if-not-is_possible.false))
