use Rattle.std.proofs.Common.{◌≡◌, ℕ, ◌+◌, ◌<◌, List, [], ◌∷◌, ◌++◌, take, length, slice_index_or, sym, ◌∙◌, subst, ap, arith}
use Rattle.std.proofs.lemmas.List.{length-append}
use Rattle.snapshot_starts.specs.declared.run.Run.{Run}
use Rattle.snapshot_starts.specs.Kept.{count_of}
use Rattle.snapshot_starts.proofs.RunSums.{one_more, sum_within, sum_pushed}
use Rattle.snapshot_starts.proofs.list.sums_of.Goals as goal

abbrev no_run : Run
no_run = record { request = record { 0 = 0 }; telescope = record { 0 = 0 }; first = record { 0 = 0 }; count = 0 }

pub loop-run-preserved : goal.loop-run-preserved
loop-run-preserved c =
    let runs : List Run = c.args.runs.now in
    let i : ℕ = c.loop-run.run-index in
    let long : length c.loop-run.sums.items ≡ i = c.loop-run.invariant.count in
    let sum : ℕ = c.loop-run.sum + (slice_index_or runs i no_run).count in
    let at : sum ≡ count_of (take (i + 1) runs) =
    ap (λ (n : ℕ). n + (slice_index_or runs i no_run).count) c.loop-run.invariant.sum ∙ sym (one_more runs i no_run c.loop-run-test.true) in
    let pushed : length c.push.new.self.items ≡ length (c.loop-run.sums.items ++ sum ∷ []) =
    ap (λ (sums : List ℕ). length sums) c.in_ok-push.ensures.items in
    let one : length (c.loop-run.sums.items ++ sum ∷ []) ≡ length c.loop-run.sums.items + 1 = length-append c.loop-run.sums.items (sum ∷ []) in
    record {
      count = omega arith;
      sum = at;
      each = subst (λ (sums : List ℕ). (k : ℕ) → k < i + 1 → slice_index_or sums k 0 ≡ count_of (take (k + 1) runs))
          (sym c.in_ok-push.ensures.items) (sum_pushed runs c.loop-run.sums.items i sum long at c.loop-run.invariant.each);
    }

pub overflow_add-sum : goal.overflow_add-sum
overflow_add-sum c =
    let within = sum_within c.args.runs.now c.loop-run.run-index no_run c.loop-run-test.true c.requires in
    let sum : c.loop-run.sum ≡ count_of (take c.loop-run.run-index c.args.runs.now) = c.loop-run.invariant.sum in
    omega arith

pub returns : goal.returns
returns c =
    let end : c.loop-run.run-index ≡ length c.args.runs.now = omega (arith, c.loop-run-test.false, c.loop-run.auto.run-index-end) in
    record {
      count = c.loop-run.invariant.count ∙ end;
      each = λ i below. c.loop-run.invariant.each i (omega arith);
    }
