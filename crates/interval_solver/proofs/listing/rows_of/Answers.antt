use Rattle.std.proofs.Common.{arith, ◌∙◌, ap}
use Rattle.std.proofs.lemmas.List.{get_or_default}
use Rattle.plan_base.specs.declared.parts.Parts.{Parts}
use Rattle.interval_solver.proofs.Listed.{all_runs, nothing_listed, all_listed}
use Rattle.interval_solver.proofs.listing.rows_of.Goals as goal

pub list_run-requires-clause-runs : goal.list_run-requires-clause-runs
list_run-requires-clause-runs c = all_runs c.args.snapshot.now c.args.starts.now c.runs-runs.result.now c.requires c.runs-runs.ensures

pub list_run-requires-clause-run : goal.list_run-requires-clause-run
list_run-requires-clause-run c = λ d. get_or_default c.runs-runs.result.now c.loop-place.place d _ (omega arith)

pub loop-place-init : goal.loop-place-init
loop-place-init c =
    nothing_listed c.args.snapshot.now c.args.telescope.0 c.runs-runs.result.now c.in_ok-rows.rows.items
    (c.in_ok-rows.ensures.count ∙ ap (λ (s : Parts). s.slices) c.parts.ensures.value) c.in_ok-rows.ensures.empty

pub returns : goal.returns
returns c =
    all_listed c.args.snapshot.now c.args.telescope.0 c.loop-place.place c.runs-runs.result.now c.loop-place.rows.items
    (all_runs c.args.snapshot.now c.args.starts.now c.runs-runs.result.now c.requires c.runs-runs.ensures) (omega arith) c.loop-place.invariant
