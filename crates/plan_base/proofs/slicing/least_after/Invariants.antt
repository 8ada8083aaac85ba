use Rattle.std.proofs.Common.{◌≡◌, ◌≤◌, min, map, fold, drop}
use Rattle.plan_base.proofs.slicing.least_after.Given as goal

abbrev pub invariant-loop-window : goal.invariant-loop-window
invariant-loop-window l = (fold min l.least (map (λ w. w.from.0) (drop l.window-index l.windows)) ≡ fold min l.first (map (λ w. w.from.0) l.windows))
    × (l.least ≤ l.first)
