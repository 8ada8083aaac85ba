use Rattle.std.proofs.Common.{◌≡◌, [], ◌∷◌, map, take}
use Rattle.desk_core.proofs.asking.each_alone.Given as goal

abbrev pub invariant-loop-window : goal.invariant-loop-window
invariant-loop-window l = l.lists.items ≡ map (λ w. w ∷ []) (take l.window-index l.windows)
