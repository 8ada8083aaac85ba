use Rattle.std.proofs.Common.{rules, ◌≡◌, ℕ, ◌<◌, ◌≤◌, ltb, true, false, slice_index_or, arith}
use Rattle.std.proofs.lemmas.Bool.Decides.{nat_tests}
use Rattle.std.proofs.lemmas.List.Sorted.{IsPartitionPoint-from_clause, IsPartitionedBy-ltb}
use Rattle.bound_checker.proofs.Spans.{ends_rise}
use Rattle.bound_checker.proofs.stretches.first_to.Goals as goal

below : (a b : ℕ) → (ltb a b ≡ true) → a < b
below a b h = grind (arith, nat_tests)

not_below : (a b : ℕ) → (ltb a b ≡ false) → b ≤ a
not_below a b h = grind (arith, nat_tests)

pub returns : goal.returns
returns c =
    let point = IsPartitionPoint-from_clause (λ w. ltb w.to.0 c.args.end) c.args.spans.now _ c.partition_point.ensures.partitioned
    (IsPartitionedBy-ltb (λ w. w.to.0) c.args.spans.now c.args.end (ends_rise c.args.spans.now c.requires)) (λ a r f q. search rules) in
    (λ k d from to. below _ _ (point.0 k d from to), λ k d from to. not_below _ _ (point.1 k d from to))
