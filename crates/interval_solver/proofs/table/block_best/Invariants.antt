use Rattle.std.proofs.Common.{All, FitsSigned, take, w64}
use Rattle.interval_solver.specs.Blocks.{IsWholeAt}
use Rattle.interval_solver.specs.Filling.{IsMostInLanes}
use Rattle.interval_solver.proofs.table.block_best.Given as goal

abbrev pub invariant-loop-start : goal.invariant-loop-start
invariant-loop-start g l = record {
  first_fit : All (FitsSigned w64) l.first;
  second_fit : All (FitsSigned w64) l.second;
  third_fit : All (FitsSigned w64) l.third;
  fourth_fit : All (FitsSigned w64) l.fourth;
  first : IsMostInLanes g.row.L (IsWholeAt (take l.start-index l.wholes) 0) l.prices l.table l.fn.least l.first;
  second : IsMostInLanes g.row.L (IsWholeAt (take l.start-index l.wholes) 1) l.prices l.table l.fn.least l.second;
  third : IsMostInLanes g.row.L (IsWholeAt (take l.start-index l.wholes) 2) l.prices l.table l.fn.least l.third;
  fourth : IsMostInLanes g.row.L (IsWholeAt (take l.start-index l.wholes) 3) l.prices l.table l.fn.least l.fourth;
}
