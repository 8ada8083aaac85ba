use Rattle.std.proofs.Common.{List, length, ap, arith}
use Rattle.interval_solver.specs.declared.start.Start.{Start}
use Rattle.interval_solver.proofs.Bounds.{length-rows_of}
use Rattle.interval_solver.proofs.row_list.RowList.len.Goals as goal

pub returns : goal.returns
returns c =
    let long = length-rows_of c.self.inside.starts.items c.self.inside.bounds.items c.self.invariant in
    let same = ap (λ (rows : List (List Start)). length rows) c.self.view_is in
    omega (arith, long, same)
