use Rattle.std.proofs.Common.{◌≡◌, pos, length, All}
use Rattle.interval_solver.specs.Tables.{IsEntry}
use Rattle.interval_solver.specs.Lanes.{IsForLanes}
use Rattle.interval_solver.proofs.numbers.zero_table.Given as goal

abbrev pub invariant-loop : goal.invariant-loop
invariant-loop g l = record {
  count : length l.table.items ≡ l.counter;
  zeros : All (IsForLanes g.row.L (λ n. n ≡ pos 0)) l.table.items;
  entries : All (IsForLanes g.row.L IsEntry) l.table.items;
}
