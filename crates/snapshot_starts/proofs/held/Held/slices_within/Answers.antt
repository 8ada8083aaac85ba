use Rattle.std.proofs.Common.{◌≡◌, ◌+◌, ◌<◌, ◌==◌, ℕ, true, List, length, slice_index_or, take, All, sym, subst, arith}
use Rattle.std.proofs.lemmas.Bool.{eqb-true}
use Rattle.std.proofs.lemmas.List.{get_or_default, take_all}
use Rattle.std.proofs.lemmas.List.Elements.{All-contains, Contains-get_or, filter_passes}
use Rattle.std.proofs.lemmas.Result.{IfOk-weaker}
use Rattle.plan_base.specs.declared.parts.Parts.{Parts}
use Rattle.plan_base.specs.Starts.{IsPossibleStart}
use Rattle.interval_set.specs.Spans.{span_has}
use Rattle.std.specs.Prelude.{IsTrue}
use Rattle.snapshot_starts.specs.Slices.{AreSlices}
use Rattle.snapshot_starts.specs.Pairs.{pair_start}
use Rattle.snapshot_starts.specs.declared.run.Run.{Run}
use Rattle.snapshot_starts.proofs.Alike.{IsPartOf}
use Rattle.snapshot_starts.proofs.HeldRuns.{AreToldBy, more_told, all_told, told_slices, telescopes_rise}
use Rattle.snapshot_starts.proofs.held.Held.slices_within.Goals as goal

abbrev some_run : Run
some_run = record { request = record { 0 = 0 }; telescope = record { 0 = 0 }; first = record { 0 = 0 }; count = 0 }

pub runs_on-runs-requires : goal.runs_on-runs-requires
runs_on-runs-requires c = telescopes_rise c.self.inside.starts c.args.pair.request.0 c.runs_of.result.now c.runs_of.ensures

pub loop-run-preserved : goal.loop-run-preserved
loop-run-preserved c =
    let t : ℕ = c.args.pair.telescope.0 in
    let slices = c.args.slices in
    let runs : List Run = c.runs_on-runs.result.now in
    let i : ℕ = c.loop-run.run-index in
    let l : i < length runs = c.loop-run-test.true in
    let run : Run = slice_index_or runs i some_run in
    let at : run ≡ slice_index_or runs i run = sym (get_or_default runs i run some_run l) in
    let passes : All (λ (x : Run). (x.telescope.0 == t) ≡ true) runs =
    subst (All (λ (x : Run). (x.telescope.0 == t) ≡ true)) (sym c.runs_on-runs.ensures)
    (filter_passes (λ (x : Run). x.telescope.0 == t) c.runs_of.result.now) in
    let same : run.telescope.0 ≡ t =
    eqb-true run.telescope.0 t (All-contains (λ (x : Run). (x.telescope.0 == t) ≡ true) runs run passes (Contains-get_or runs i some_run l)) in
    let is : IsPartOf c.slices_of_run.result slices c.common.result = record { from = c.common.ensures.from; to = c.common.ensures.to } in
    subst (AreToldBy t slices (take (i + 1) runs)) (sym c.in_ok-push.ensures.items)
    (more_told t slices c.slices_of_run.result c.common.result runs i run c.loop-run.within.items l at same c.slices_of_run.ensures.from
    c.slices_of_run.ensures.to is c.loop-run.invariant)

pub returns : goal.returns
returns c =
    let t : ℕ = c.args.pair.telescope.0 in
    let slices = c.args.slices in
    let all : List Run = c.runs_of.result.now in
    let runs : List Run = c.runs_on-runs.result.now in
    let whole : take c.loop-run.run-index runs ≡ runs = take_all c.loop-run.run-index runs (omega (arith, c.loop-run-test.false)) in
    let mine : AreToldBy t slices runs c.as_slice.result.now =
    subst (AreToldBy t slices runs) (sym c.as_slice.ensures.value)
    (subst (λ (xs : List Run). AreToldBy t slices xs c.loop-run.within.items) whole c.loop-run.invariant) in
    let told : AreToldBy t slices all c.as_slice.result.now =
    all_told t slices all c.as_slice.result.now
    (subst (λ (xs : List Run). AreToldBy t slices xs c.as_slice.result.now) c.runs_on-runs.ensures mine) in
    IfOk-weaker c.from_list.result _ _ (λ set is.
    subst (λ (s : Parts). AreSlices (λ k. IsPossibleStart s (pair_start c.args.pair k) × IsTrue (span_has slices k)) set) c.self.view_is
    (told_slices c.self.inside.snapshot c.self.inside.starts all c.args.pair slices c.as_slice.result.now set c.self.invariant.all c.runs_of.ensures
    told is)) c.from_list.ensures
