use Rattle.std.proofs.Common.{arith, rules}
use Rattle.std.proofs.lemmas.List.Sorted.{IsPartitionPoint-from_clause}
use Rattle.plan_base.specs.Skies.{is_below}
use Rattle.plan_base.proofs.Skies.{partitioned}
use Rattle.plan_base.proofs.sky.count_below.Goals as goal

pub returns : goal.returns
returns c =
    let facts = c.partition_point.ensures in
    let point = IsPartitionPoint-from_clause (is_below c.args.target.0 c.args.site.0) c.args.skies.now _ facts.partitioned
    (partitioned _ _ _ c.requires) (λ a r f' called. search rules) in
    record {
      within = facts.bound;
      below = λ k d lt. point.0 k d (omega arith) lt;
      others = λ k d le lt. point.1 k d le lt;
    }
