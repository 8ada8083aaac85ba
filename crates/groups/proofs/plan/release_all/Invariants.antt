use Rattle.std.proofs.Common.{drop}
use Rattle.groups.specs.Tables.{AreTables}
use Rattle.groups.proofs.plan.release_all.Given as goal

abbrev pub invariant-loop-placement : goal.invariant-loop-placement
invariant-loop-placement l = AreTables l.snapshot (drop l.placement-index l.placements) l.tables
