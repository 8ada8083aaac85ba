use Rattle.std.proofs.Common.{◌≡◌, map, take}
use Rattle.desk_core.specs.Desk.{seen}
use Rattle.desk_core.specs.DeskSnapshot.{listed_groups, group_part}
use Rattle.desk_core.proofs.desk.Desk.group_parts.Given as goal

abbrev pub invariant-loop-number : goal.invariant-loop-number
invariant-loop-number l = l.parts ≡ map (group_part (seen l.self)) (take l.number-index (listed_groups (seen l.self)))
