use Rattle.std.proofs.Common.{◌≡◌, ◌+◌, length, All}
use Rattle.interval_solver.specs.Tables.{IsEntry}
use Rattle.interval_solver.specs.Lanes.{IsForLanes}
use Rattle.lanes.proofs.Solved.{AreSolvedTo}
use Rattle.lanes.proofs.solving.solve_telescopes.Given as goal

abbrev pub invariant-loop-telescope : goal.invariant-loop-telescope
invariant-loop-telescope g l = record {
  entries : length l.table ≡ l.snapshot.slices + 1;
  table : All (IsForLanes g.row.L IsEntry) l.table;
  solved : AreSolvedTo l.snapshot g.row.L l.telescope l.prices l.uses l.bests;
}
