use Rattle.std.proofs.Common.{◌≡◌, ◌≤◌, length, map, take, All}
use Rattle.rapid.specs.Held.{held_of, HasPlaceBelow}
use Rattle.rapid.proofs.held.held_plan.Given as goal

abbrev pub invariant-loop-placement : goal.invariant-loop-placement
invariant-loop-placement l =
    (l.held.items ≡ map (held_of l.snapshot l.quota) (take l.placement-index l.plan))
    × All (HasPlaceBelow (length l.snapshot.groups)) l.held.items
    × All (λ h. h.worth ≤ 288000000) l.held.items
    × All (λ h. h.counted ≤ 86400) l.held.items
