use Rattle.std.proofs.Common.{◌≤◌, List, length, subst, arith}
use Rattle.snapshot_starts.specs.declared.run.Run.{Run}
use Rattle.repair.proofs.Nearest.{run_more, size_of_run, earliest_of_all}
use Rattle.repair.proofs.find.earliest.Goals as goal

pub better-best-requires-clause-size : goal.better-best-requires-clause-size
better-best-requires-clause-size c =
    size_of_run c.args.draft.now.snapshot c.args.entry.now c.as_slice-run-items.result.now c.loop-run.run-index _ c.requires
    c.as_slice-run-items.ensures c.loop-run-test.true

pub loop-run-preserved : goal.loop-run-preserved
loop-run-preserved c =
    run_more c.args.draft.now.snapshot c.args.draft.now.placed c.args.entry.now c.as_slice-run-items.result.now c.loop-run.run-index _ c.loop-run.best
    c.better-best.result c.recall.ensures.orderly c.requires c.as_slice-run-items.ensures c.loop-run-test.true c.loop-run.invariant
    c.better-best.ensures

pub returns : goal.returns
returns c =
    earliest_of_all c.args.draft.now.snapshot c.args.draft.now.placed c.args.entry.now.request.0 c.args.entry.now.runs c.loop-run.run-index c.requires.runs
    (subst (λ (xs : List Run). length xs ≤ c.loop-run.run-index) c.as_slice-run-items.ensures (omega arith)) c.loop-run.best c.loop-run.invariant
