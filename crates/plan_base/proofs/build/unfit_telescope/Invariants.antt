use Rattle.std.proofs.Common.{◌≡◌, drop, map, length}
use Rattle.plan_base.specs.Snapshot.{first_some}
use Rattle.plan_base.specs.Faults.{unfit_in}
use Rattle.plan_base.proofs.build.unfit_telescope.Given as goal

abbrev pub invariant-loop-group : goal.invariant-loop-group
invariant-loop-group l =
    (l.count ≡ length l.parts.telescopes)
    × (first_some (map (unfit_in l.count) (drop l.group-index l.parts.groups)) ≡ first_some (map (unfit_in l.count) l.parts.groups))
