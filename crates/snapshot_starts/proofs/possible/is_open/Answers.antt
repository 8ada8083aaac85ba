use Rattle.std.proofs.Common.{List, All, sym, subst}
use Rattle.plan_base.specs.declared.number.TargetNo.{TargetNo}
use Rattle.plan_base.specs.declared.span.Span.{Span}
use Rattle.plan_base.specs.BySpans.{OneHasAll, IsVisibleThrough}
use Rattle.snapshot_starts.proofs.possible.is_open.Goals as goal

pub returns-then-lies_in_sorted : goal.returns-then-lies_in_sorted
returns-then-lies_in_sorted c =
    let a = c.args.times.from.0 in
    let b = c.args.times.to.0 in
    let All-seen : List TargetNo → Type 0 = λ targets. All (λ target. IsVisibleThrough c.args.parts.now target.0 c.args.part.now.site.0 a b) targets in (
      λ yes. record {
        usable = subst (λ (spans : List Span). OneHasAll spans a b) c.as_slice.ensures (c.lies_in_sorted.ensures.0 c.if-lies_in_sorted.true);
        visible = subst All-seen c.as_slice-then-lies_in_sorted.ensures (c.are_visible.ensures.0 yes);
      },
      λ is_open. c.are_visible.ensures.1 (subst All-seen (sym c.as_slice-then-lies_in_sorted.ensures) is_open.visible),
    )
