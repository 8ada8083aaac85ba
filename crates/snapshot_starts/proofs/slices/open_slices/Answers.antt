use Rattle.std.proofs.Common.{◌+◌, ◌*◌, List, subst}
use Rattle.std.specs.Prelude.{IsTrue, All}
use Rattle.std.proofs.lemmas.Result.{IfOk-weaker}
use Rattle.plan_base.specs.declared.number.TargetNo.{TargetNo}
use Rattle.plan_base.specs.declared.span.Span.{Span}
use Rattle.plan_base.specs.BySpans.{OneHasAll, IsVisibleThrough}
use Rattle.interval_set.specs.Spans.{has}
use Rattle.snapshot_starts.specs.Slices.{AreSlices}
use Rattle.snapshot_starts.proofs.Narrowing.{open_set}
use Rattle.snapshot_starts.proofs.slices.open_slices.Goals as goal

pub returns : goal.returns
returns c =
    let s = c.args.parts.now in
    let q = c.args.request.now in
    let part = c.args.part.now in
    let usable : AreSlices (λ k. OneHasAll part.usable (k * s.len) (k * s.len + q.seconds)) c.in_ok-usable.usable =
    subst (λ (spans : List Span). AreSlices (λ k. OneHasAll spans (k * s.len) (k * s.len + q.seconds)) c.in_ok-usable.usable) c.as_slice-spans.ensures
    c.in_ok-usable.ensures in
    IfOk-weaker c.slices_under_all.result _ _
    (λ left are. open_set s q part c.in_ok-timely.timely c.in_ok-usable.usable c.in_ok-slices.slices left c.in_ok-timely.ensures
    usable c.in_ok-slices.ensures
    (subst (λ (targets : List TargetNo). AreSlices
    (λ k. IsTrue (has c.in_ok-slices.slices k)
    × All (λ target. IsVisibleThrough s target.0 part.site.0 (k * s.len) (k * s.len + q.seconds)) targets) left) c.as_slice-targets.ensures are))
    c.slices_under_all.ensures
