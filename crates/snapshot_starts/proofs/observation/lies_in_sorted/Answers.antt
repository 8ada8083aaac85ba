use Rattle.std.proofs.Common.{◌≡◌, ℕ, ◌≤◌, true, arith, rules}
use Rattle.std.specs.Prelude.{nat_le, nat_lt}
use Rattle.std.proofs.lemmas.Bool.Decides.{nat_tests}
use Rattle.std.proofs.lemmas.List.Sorted.{IsPartitionPoint-from_clause, IsPartitionedBy-leb}
use Rattle.plan_base.specs.declared.span.Span.{Span}
use Rattle.interval_set.proofs.Seconds.{rise}
use Rattle.interval_set.proofs.Searches.{begun_by}
use Rattle.snapshot_starts.proofs.Begun.{in_last, none_begun}
use Rattle.snapshot_starts.proofs.observation.lies_in_sorted.Goals as goal

pub returns-then-begun-gt0 : goal.returns-then-begun-gt0
returns-then-begun-gt0 c =
    let facts = c.partition_point-begun.ensures in
    let point = IsPartitionPoint-from_clause (λ (s : Span). nat_le s.from.0 c.args.times.from.0) c.args.spans.now _ facts.partitioned
    (IsPartitionedBy-leb (λ (s : Span). s.from.0) c.args.spans.now _ (rise _ c.requires)) (λ a r f' called. search rules) in
    in_last _ _ _ _ c.requires (begun_by _ _ _ facts.bound point) c.if-begun-gt0.true

pub returns-else-begun-gt0 : goal.returns-else-begun-gt0
returns-else-begun-gt0 c =
    let facts = c.partition_point-begun.ensures in
    let point = IsPartitionPoint-from_clause (λ (s : Span). nat_le s.from.0 c.args.times.from.0) c.args.spans.now _ facts.partitioned
    (IsPartitionedBy-leb (λ (s : Span). s.from.0) c.args.spans.now _ (rise _ c.requires)) (λ a r f' called. search rules) in
    let none = none_begun _ _ c.args.times.to.0 _ (begun_by _ _ _ facts.bound point) c.if-begun-gt0.false in
    (λ yes. absurd (some_is_not_none _ c.if-begun-gt0.false yes), λ has. absurd (none has))
  where
    some_is_not_none : (n : ℕ) → n ≤ 0 → nat_lt 0 n ≡ true → ⊥
    some_is_not_none n none some = grind (arith, nat_tests)
