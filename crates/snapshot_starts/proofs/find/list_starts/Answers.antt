use Rattle.std.proofs.Common.{◌≡◌, length, sym, ◌∙◌, ap, subst, arith, List}
use Rattle.std.specs.Prelude.{sum_by}
use Rattle.plan_base.specs.declared.claim.Placement.{Placement}
use Rattle.snapshot_starts.specs.Found.{slice_count, runs_of}
use Rattle.snapshot_starts.specs.Kept.{CanKeep}
use Rattle.snapshot_starts.specs.Runs.{AreAllStarts, starts_of}
use Rattle.snapshot_starts.proofs.FoundRuns.{are_few, run_spans, can_keep, count_of_runs, start_count, all_found}
use Rattle.snapshot_starts.proofs.RunOrder.{length_of_starts}
use Rattle.snapshot_starts.proofs.find.list_starts.Goals as goal

pub count_starts-count-requires : goal.count_starts-count-requires
count_starts-count-requires c = are_few c.args.snapshot.now c.args.found.now c.recall_valid.ensures.orderly c.requires

pub returns-then-count-gt-MOST_STARTS-clause-err : goal.returns-then-count-gt-MOST_STARTS-clause-err
returns-then-count-gt-MOST_STARTS-clause-err c =
    (c.if-count-gt-MOST_STARTS.true, start_count c.args.snapshot.now c.args.found.now _ c.recall_valid.ensures.orderly c.requires c.count_starts-count.ensures)

pub runs_of-requires : goal.runs_of-requires
runs_of-requires c = run_spans c.args.snapshot.now c.args.found.now c.recall_valid.ensures.orderly c.requires

pub from_runs-requires : goal.from_runs-requires
from_runs-requires c =
    subst CanKeep (sym c.in_ok-runs.ensures)
    (can_keep c.args.snapshot.now c.args.found.now c.count_starts-count.result c.recall_valid.ensures.orderly c.requires
    c.count_starts-count.ensures c.if-count-gt-MOST_STARTS.false)

pub returns-clause-ok : goal.returns-clause-ok
returns-clause-ok c =
    subst (AreAllStarts c.args.snapshot.now) (sym (c.in_ok-from_runs.ensures ∙ ap starts_of c.in_ok-runs.ensures))
    (all_found c.args.snapshot.now c.args.found.now c.recall_valid.ensures.orderly c.requires)

pub returns-clause-few : goal.returns-clause-few
returns-clause-few c =
    let count : length c.in_ok-from_runs.field-0 ≡ sum_by (λ x. slice_count x.slices) c.args.found.now =
    ap (λ (starts : List Placement). length starts) (c.in_ok-from_runs.ensures ∙ ap starts_of c.in_ok-runs.ensures)
    ∙ length_of_starts (runs_of c.args.found.now) ∙ count_of_runs c.args.found.now in
    omega (arith, count, c.count_starts-count.ensures, c.if-count-gt-MOST_STARTS.false)
