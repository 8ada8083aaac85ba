use Rattle.std.proofs.Common.{◌∷◌, map, take, Contains}
use Rattle.lanes.proofs.worker.Worker.has_met.Given as goal

abbrev pub invariant-loop-lane : goal.invariant-loop-lane
invariant-loop-lane g l =
    Contains (l.self.found.bound ∷ map (λ y. y.found.bound) (take l.lane-index l.lane-items)) l.bound
    × Contains (l.self.found.value ∷ map (λ y. y.found.value) (take l.lane-index l.lane-items)) l.value
