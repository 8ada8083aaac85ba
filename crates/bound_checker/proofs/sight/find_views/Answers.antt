use Rattle.std.proofs.Common.{ℕ, ◌+◌, List, sym, subst}
use Rattle.std.proofs.lemmas.List.{get_or_default}
use Rattle.bound_checker.proofs.Skies.{AreFirstViews, views_hidden, views_more}
use Rattle.bound_checker.proofs.sight.find_views.Goals as goal

pub returns-in_default : goal.returns-in_default
returns-in_default c =
    views_hidden c.args.skies.now c.args.site c.args.targets.now c.loop-target.views.items c.loop-target.target-index _ c.loop-target-test.true
    (get_or_default c.args.targets.now c.loop-target.target-index _ _ c.loop-target-test.true) c.in_default.ensures

pub loop-target-preserved : goal.loop-target-preserved
loop-target-preserved c =
    subst (λ (views : List ℕ). AreFirstViews c.args.skies.now c.args.site c.args.targets.now (c.loop-target.target-index + 1) views)
    (sym c.in_ok-push.ensures.items)
    (views_more c.args.skies.now c.args.site c.args.targets.now c.loop-target.target-index c.loop-target.views.items _ c.in-Some.view
    c.loop-target-test.true (get_or_default c.args.targets.now c.loop-target.target-index _ _ c.loop-target-test.true)
    c.in-Some.ensures c.loop-target.invariant)
