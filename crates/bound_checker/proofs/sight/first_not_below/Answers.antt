use Rattle.std.proofs.Common.{rules}
use Rattle.std.proofs.lemmas.List.Sorted.{IsPartitionPoint-from_clause}
use Rattle.plan_base.specs.Skies.{is_below}
use Rattle.plan_base.proofs.Skies.{partitioned}
use Rattle.bound_checker.proofs.sight.first_not_below.Goals as goal

pub returns : goal.returns
returns c =
    IsPartitionPoint-from_clause (λ y. is_below c.args.target.0 c.args.site.0 y) c.args.skies.now _ c.partition_point.ensures.partitioned
    (partitioned c.args.target.0 c.args.site.0 c.args.skies.now c.requires) (λ a r f q. search rules)
