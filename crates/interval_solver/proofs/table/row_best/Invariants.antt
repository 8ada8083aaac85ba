use Rattle.std.proofs.Common.{All, Contains, FitsSigned, take, w64}
use Rattle.interval_solver.specs.Filling.{IsMostInLanes}
use Rattle.interval_solver.proofs.table.row_best.Given as goal

abbrev pub invariant-loop-start : goal.invariant-loop-start
invariant-loop-start g l = record {
  fit : All (FitsSigned w64) l.greatest;
  most : IsMostInLanes g.row.L (Contains (take l.start-index l.row)) l.prices l.table l.fn.least l.greatest;
}
