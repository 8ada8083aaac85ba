use Rattle.bound_checker.specs.Stretches.{IsStretch}
use Rattle.bound_checker.proofs.Alike.{IsInFirst}
use Rattle.bound_checker.proofs.sight.stretch_in_skies.Given as goal

abbrev pub invariant-loop-view : goal.invariant-loop-view
invariant-loop-view l = IsStretch (IsInFirst l.skies l.views l.observation l.view-index) l.slice l.stretch
