use Rattle.std.proofs.Common.{◌≤◌, arith}
use Rattle.snapshot_starts.specs.Kept.{count_of}
use Rattle.snapshot_starts.proofs.RunSums.{sum_of_all}
use Rattle.snapshot_starts.proofs.list.Starts.count.Goals as goal

pub returns-clause-count : goal.returns-clause-count
returns-clause-count c = (sum_of_all c.self.inside.runs.items c.self.inside.sums.items c.as_slice-sums.result.now c.args.self.now _
    c.self.invariant.are_sums c.as_slice-sums.ensures.value c.self.view_is c.sum_before.ensures).0

pub returns-clause-most : goal.returns-clause-most
returns-clause-most c =
    let few : count_of c.self.inside.runs.items ≤ 1048576 = c.self.invariant.can_keep.few in
    omega (
      arith,
      (sum_of_all c.self.inside.runs.items c.self.inside.sums.items c.as_slice-sums.result.now c.args.self.now _ c.self.invariant.are_sums
          c.as_slice-sums.ensures.value c.self.view_is c.sum_before.ensures).1,
      few,
    )
