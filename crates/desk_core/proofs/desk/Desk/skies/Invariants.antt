use Rattle.std.proofs.Common.{◌≡◌, take}
use Rattle.std.specs.List.{flat_map}
use Rattle.desk_core.specs.Desk.{seen}
use Rattle.desk_core.specs.DeskSnapshot.{skies_at}
use Rattle.desk_core.proofs.desk.Desk.skies.Given as goal

abbrev pub invariant-loop-target : goal.invariant-loop-target
invariant-loop-target l = l.skies ≡ flat_map (λ t. skies_at (seen l.self) t.0) (take l.target-index l.targets)
