use Rattle.std.proofs.Common.{◌+◌, ◌*◌, List, subst}
use Rattle.std.proofs.lemmas.Result.{IfOk-weaker}
use Rattle.plan_base.specs.declared.span.Span.{Span}
use Rattle.plan_base.specs.BySpans.{OneHasAll}
use Rattle.snapshot_starts.specs.Slices.{AreSlices}
use Rattle.snapshot_starts.proofs.Narrowing.{timely_set}
use Rattle.snapshot_starts.proofs.slices.timely_slices.Goals as goal

pub returns : goal.returns
returns c =
    let s = c.args.parts.now in
    let q = c.args.request.now in
    let inside : AreSlices (λ k. OneHasAll q.windows (k * s.len) (k * s.len + q.seconds)) c.in_ok-inside.inside =
    subst (λ (windows : List Span). AreSlices (λ k. OneHasAll windows (k * s.len) (k * s.len + q.seconds)) c.in_ok-inside.inside)
    c.as_slice-windows.ensures c.in_ok-inside.ensures in
    IfOk-weaker c.meet.result _ _ (λ meet is. timely_set s q c.horizon_for-horizon.result c.in_ok-within.within c.in_ok-inside.inside meet
    c.horizon_for-horizon.ensures.horizon c.in_ok-within.ensures inside is) c.meet.ensures
