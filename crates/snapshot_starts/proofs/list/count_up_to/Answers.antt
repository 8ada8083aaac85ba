use Rattle.std.proofs.Common.{ℕ, arith, rules}
use Rattle.std.specs.Prelude.{nat_le}
use Rattle.std.proofs.lemmas.Bool.Decides.{nat_tests}
use Rattle.std.proofs.lemmas.List.Sorted.{IsPartitionPoint-from_clause, IsPartitionedBy-leb}
use Rattle.snapshot_starts.proofs.list.count_up_to.Goals as goal

pub returns : goal.returns
returns c =
    let facts = c.partition_point.ensures in
    let point = IsPartitionPoint-from_clause (λ (sum : ℕ). nat_le sum c.args.most) c.args.sums.now _ facts.partitioned
    (IsPartitionedBy-leb (λ (sum : ℕ). sum) c.args.sums.now _ c.requires) (λ a r f' called. search rules) in
    record {
      within = facts.bound;
      up_to = λ k below. grind (arith, nat_tests, point.0 k 0 (omega arith) below);
      above = λ k from below. grind (arith, nat_tests, point.1 k 0 from below);
    }
