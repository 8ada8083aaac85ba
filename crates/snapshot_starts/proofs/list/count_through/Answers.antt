use Rattle.std.proofs.Common.{nat_le, arith, rules}
use Rattle.std.proofs.lemmas.List.Sorted.{IsPartitionPoint-from_clause, IsPartitionedBy-leb}
use Rattle.snapshot_starts.specs.declared.run.Run.{Run}
use Rattle.snapshot_starts.proofs.list.count_through.Goals as goal

pub returns-clause-counted : goal.returns-clause-counted
returns-clause-counted c =
    let facts = c.partition_point.ensures in
    let point = IsPartitionPoint-from_clause (λ run. nat_le run.request.0 c.args.request.0) c.args.runs.now _ facts.partitioned
    (IsPartitionedBy-leb (λ (run : Run). run.request.0) c.args.runs.now c.args.request.0 c.requires) (λ a r f' called. search rules) in
    record {
      below = λ k d lt within. point.0 k d (omega arith) lt;
      others = λ k d le lt. point.1 k d le lt;
    }
