use Rattle.std.proofs.Common.{◌≡◌, ◌+◌, ◌*◌, slice_index_or, take, List, sym, subst, arith}
use Rattle.std.proofs.lemmas.List.{get_or_default, take_all}
use Rattle.std.proofs.lemmas.Result.{IfOk-weaker}
use Rattle.plan_base.specs.declared.span.Span.{Span}
use Rattle.plan_base.specs.BySpans.{OneHasAll}
use Rattle.snapshot_starts.proofs.Begun.{nothing}
use Rattle.snapshot_starts.proofs.Sets.{AreSlicesOf, slices_at, set_slices}
use Rattle.snapshot_starts.proofs.slices.slices_in_any.Goals as goal

pub loop-span-preserved : goal.loop-span-preserved
loop-span-preserved c =
    let l = c.loop-span-test.true in
    let w : Span = slice_index_or c.args.spans.now c.loop-span.span-index nothing in
    subst (λ (slices : List Span). AreSlicesOf c.args.len c.args.seconds (take (c.loop-span.span-index + 1) c.args.spans.now) slices)
    (sym c.in_ok-push.ensures.items)
    (slices_at c.args.len c.args.seconds c.args.spans.now c.loop-span.slices.items c.loop-span.span-index w c.slices_in.result l c.loop-span.invariant
    (get_or_default c.args.spans.now c.loop-span.span-index w nothing l) c.slices_in.ensures)

pub returns : goal.returns
returns c =
    let len = c.args.len in
    let d = c.args.seconds in
    let whole : take c.loop-span.span-index c.args.spans.now ≡ c.args.spans.now =
    take_all c.loop-span.span-index c.args.spans.now (omega (arith, c.loop-span-test.false)) in
    let all : AreSlicesOf len d c.args.spans.now c.as_slice.result.now =
    subst (AreSlicesOf len d c.args.spans.now) (sym c.as_slice.ensures.value)
    (subst (λ (spans : List Span). AreSlicesOf len d spans c.loop-span.slices.items) whole c.loop-span.invariant) in
    IfOk-weaker c.from_list.result _ _
    (λ set is. set_slices (λ k. OneHasAll c.args.spans.now (k * len) (k * len + d)) c.as_slice.result.now set all.each is) c.from_list.ensures
