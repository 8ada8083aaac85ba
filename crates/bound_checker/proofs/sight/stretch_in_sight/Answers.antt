use Rattle.std.proofs.Common.{◌∙◌, sym, ap, subst}
use Rattle.bound_checker.specs.declared.stretches.Stretch.{Stretch}
use Rattle.bound_checker.specs.Stretches.{IsStretch, both}
use Rattle.bound_checker.specs.Sights.{IsInSight}
use Rattle.bound_checker.proofs.Alike.{no_window, not_usable, all_three}
use Rattle.bound_checker.proofs.sight.stretch_in_sight.Goals as goal

pub returns-then-not-window : goal.returns-then-not-window
returns-then-not-window c = no_window c.args.sight.now c.args.observation c.args.slice c.stretch_in_any-window.result
    c.stretch_in_any-window.ensures c.if-not-window.true

pub returns-then-not-usable : goal.returns-then-not-usable
returns-then-not-usable c =
    not_usable c.args.sight.now c.args.observation c.args.slice c.stretch_in_sorted-usable.result c.stretch_in_sorted-usable.ensures c.if-not-usable.true

pub returns : goal.returns
returns c =
    subst (λ (x : Stretch). IsStretch (IsInSight c.args.sight.now c.args.observation) c.args.slice x)
    (sym (c.both-2.ensures ∙ ap (λ (x : Stretch). both x c.stretch_in_skies-skies.result) c.both.ensures))
    (all_three c.args.sight.now c.args.observation c.args.slice c.stretch_in_any-window.result c.stretch_in_sorted-usable.result
    c.stretch_in_skies-skies.result c.stretch_in_any-window.ensures c.stretch_in_sorted-usable.ensures c.stretch_in_skies-skies.ensures)
