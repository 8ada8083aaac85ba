use Rattle.std.proofs.Common.{ℕ, ◌-◌, ◌≤◌, nat_lt, nat_le, List, ◌∙◌, subst, arith, rules}
use Rattle.std.proofs.lemmas.List.Sorted.{IsPartitionPoint-from_clause, IsPartitionedBy-ltb, IsPartitionedBy-leb}
use Rattle.snapshot_starts.specs.declared.run.Run.{Run}
use Rattle.snapshot_starts.specs.Kept.{HoldsBelow}
use Rattle.snapshot_starts.proofs.RunParts.{part_with, no_fewer}
use Rattle.snapshot_starts.proofs.held.runs_on.Goals as goal

abbrev some_run : Run
some_run = record { request = record { 0 = 0 }; telescope = record { 0 = 0 }; first = record { 0 = 0 }; count = 0 }

pub part_of-requires-clause-order : goal.part_of-requires-clause-order
part_of-requires-clause-order c =
    let runs : List Run = c.args.runs.now in
    let t : ℕ = c.args.telescope.0 in
    let low = IsPartitionPoint-from_clause (λ run. nat_lt run.telescope.0 t) runs _ c.partition_point-from.ensures.partitioned
    (IsPartitionedBy-ltb (λ (run : Run). run.telescope.0) runs t c.requires) (λ a r f' called. search rules) in
    let high = IsPartitionPoint-from_clause (λ run. nat_le run.telescope.0 t) runs _ c.partition_point-to.ensures.partitioned
    (IsPartitionedBy-leb (λ (run : Run). run.telescope.0) runs t c.requires) (λ a r f' called. search rules) in
    no_fewer (λ (run : Run). run.telescope.0) runs t c.partition_point-from.result c.partition_point-to.result some_run c.partition_point-from.ensures.bound
    (record { below = λ k d lt within. low.0 k d (omega arith) lt; others = λ k d le lt. low.1 k d le lt })
    (record { below = λ k d lt within. high.0 k d (omega arith) lt; others = λ k d le lt. high.1 k d le lt })

pub returns : goal.returns
returns c =
    let runs : List Run = c.args.runs.now in
    let t : ℕ = c.args.telescope.0 in
    let from : ℕ = c.partition_point-from.result in
    let to : ℕ = c.partition_point-to.result in
    let low = IsPartitionPoint-from_clause (λ run. nat_lt run.telescope.0 t) runs _ c.partition_point-from.ensures.partitioned
    (IsPartitionedBy-ltb (λ (run : Run). run.telescope.0) runs t c.requires) (λ a r f' called. search rules) in
    let high = IsPartitionPoint-from_clause (λ run. nat_le run.telescope.0 t) runs _ c.partition_point-to.ensures.partitioned
    (IsPartitionedBy-leb (λ (run : Run). run.telescope.0) runs t c.requires) (λ a r f' called. search rules) in
    let below : HoldsBelow (λ (run : Run). nat_lt run.telescope.0 t) runs from =
    record { below = λ k d lt within. low.0 k d (omega arith) lt; others = λ k d le lt. low.1 k d le lt } in
    let up_to : HoldsBelow (λ (run : Run). nat_le run.telescope.0 t) runs to =
    record { below = λ k d lt within. high.0 k d (omega arith) lt; others = λ k d le lt. high.1 k d le lt } in
    let order : from ≤ to = no_fewer (λ (run : Run). run.telescope.0) runs t from to some_run c.partition_point-from.ensures.bound below up_to in
    c.part_of.ensures
    ∙ part_with (λ (run : Run). run.telescope.0) runs t from (to - from) below
    (subst (λ (n : ℕ). HoldsBelow (λ (run : Run). nat_le run.telescope.0 t) runs n) (omega arith) up_to)
