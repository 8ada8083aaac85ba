use Rattle.std.proofs.Common.{◌≡◌, ◌<◌, map, take}
use Rattle.std.specs.List.{enumerate_from}
use Rattle.site_model.specs.Calendar.{IsWithinLimits}
use Rattle.desk_core.specs.Desk.{seen}
use Rattle.desk_core.specs.DeskSnapshot.{telescope_part}
use Rattle.desk_core.proofs.desk.Desk.telescope_parts.Given as goal

abbrev pub invariant-loop-telescope : goal.invariant-loop-telescope
invariant-loop-telescope l = record {
  made : l.parts ≡ map (telescope_part (seen l.self)) (take l.telescope (enumerate_from 0 l.self.network.registry.telescopes));
  limits : 0 < l.telescope → IsWithinLimits l.self.network.calendar;
}
