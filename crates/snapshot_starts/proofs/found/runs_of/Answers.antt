use Rattle.std.proofs.Common.{◌≡◌, ◌+◌, ◌++◌, List, All, map, take, sym, subst, ◌∙◌, ap}
use Rattle.plan_base.specs.declared.span.Span.{Span}
use Rattle.snapshot_starts.specs.declared.pair.PairSlices.{PairSlices}
use Rattle.snapshot_starts.specs.declared.run.Run.{Run}
use Rattle.snapshot_starts.specs.Found.{IsRunSpan, run_of, runs_of}
use Rattle.snapshot_starts.proofs.FoundPairs.{flat_map_one_more}
use Rattle.snapshot_starts.proofs.found.runs_of.Goals as goal

pub push_runs-requires : goal.push_runs-requires
push_runs-requires c =
    subst (All IsRunSpan) (sym (c.list.ensures.all ∙ ap (λ (x : PairSlices). x.slices) c.pair_slices-item.is))
    (c.requires c.loop-pair_slices.pair_slices-index c.pair_slices-item.result c.loop-pair_slices-test.true)

pub loop-pair_slices-preserved : goal.loop-pair_slices-preserved
loop-pair_slices-preserved c =
    let found = c.args.found.now in
    let i = c.loop-pair_slices.pair_slices-index in
    let x : PairSlices = c.pair_slices-item.result in
    let of_pair : PairSlices → List Run = λ y. map (run_of y.pair) y.slices in
    let more : runs_of (take (i + 1) found) ≡ runs_of (take i found) ++ of_pair x =
    flat_map_one_more of_pair found i x c.loop-pair_slices-test.true
    ∙ ap (λ (y : PairSlices). runs_of (take i found) ++ of_pair y) (sym c.pair_slices-item.is) in
    c.in_ok-push_runs.ensures ∙ ap (λ (spans : List Span). c.loop-pair_slices.runs.items ++ map (run_of x.pair) spans) c.list.ensures.all
    ∙ ap (λ (runs : List Run). runs ++ of_pair x) c.loop-pair_slices.invariant ∙ sym more
