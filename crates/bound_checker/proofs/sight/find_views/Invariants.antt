use Rattle.bound_checker.proofs.Skies.{AreFirstViews}
use Rattle.bound_checker.proofs.sight.find_views.Given as goal

abbrev pub invariant-loop-target : goal.invariant-loop-target
invariant-loop-target l = AreFirstViews l.skies l.site l.targets l.target-index l.views.items
