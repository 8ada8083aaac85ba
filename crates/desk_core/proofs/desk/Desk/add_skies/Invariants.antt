use Rattle.std.proofs.Common.{◌≡◌, ◌++◌}
use Rattle.std.specs.List.{filter_map, range_with_len}
use Rattle.desk_core.specs.Desk.{seen}
use Rattle.desk_core.specs.DeskSnapshot.{sky_part}
use Rattle.desk_core.proofs.desk.Desk.add_skies.Given as goal

abbrev pub invariant-loop-site : goal.invariant-loop-site
invariant-loop-site l = l.skies ≡ l.fn.skies ++ filter_map (sky_part (seen l.self) l.target.0) (range_with_len 0 l.site)
