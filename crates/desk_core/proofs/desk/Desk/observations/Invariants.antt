use Rattle.std.proofs.Common.{◌≡◌, map, take}
use Rattle.desk_core.specs.Desk.{seen}
use Rattle.desk_core.specs.Publishing.{observed}
use Rattle.desk_core.proofs.desk.Desk.observations.Given as goal

abbrev pub invariant-loop-placement : goal.invariant-loop-placement
invariant-loop-placement l = l.observations ≡ map (observed (seen l.self)) (take l.placement-index l.placements)
