use Rattle.std.proofs.Common.{rules}
use Rattle.std.specs.Prelude.{nat_le}
use Rattle.std.proofs.lemmas.List.Sorted.{IsPartitionPoint-from_clause, IsPartitionedBy-leb}
use Rattle.plan_base.specs.declared.span.Span.{Span}
use Rattle.interval_set.proofs.Searches.{ends_rise}
use Rattle.interval_set.proofs.Searches.{ended_by, le_test}
use Rattle.interval_set.proofs.spans.Spans.count_ended.Goals as goal

pub returns : goal.returns
returns c =
    let facts = c.partition_point.ensures in
    let point = IsPartitionPoint-from_clause (λ (s : Span). nat_le s.to.0 c.args.by.0) c.deref.result.now _ facts.partitioned
    (IsPartitionedBy-leb (λ (s : Span). s.to.0) c.deref.result.now _ (ends_rise _ (rw c.deref.ensures.value c.self.invariant)))
    (λ a r f' called. search (rules, le_test)) in
    rw (← c.self.view_is, ← c.deref.ensures.value) (ended_by _ _ _ facts.bound point)
