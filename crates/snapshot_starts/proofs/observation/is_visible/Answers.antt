use Rattle.std.proofs.Common.{subst, sym, List}
use Rattle.std.proofs.lemmas.List.Elements.{All-contains}
use Rattle.plan_base.specs.declared.parts.Sky.{Sky}
use Rattle.plan_base.specs.declared.span.Span.{Span}
use Rattle.plan_base.specs.BySpans.{OneHasAll}
use Rattle.interval_set.specs.Spans.{IsSortedApart}
use Rattle.plan_base.proofs.Skies.{seen_by, seen_one}
use Rattle.snapshot_starts.proofs.observation.is_visible.Goals as goal

pub lies_in_sorted-requires : goal.lies_in_sorted-requires
lies_in_sorted-requires c =
    subst IsSortedApart (sym c.as_slice.ensures)
    (All-contains (λ (y : Sky). IsSortedApart y.spans) c.args.skies.now c.in-Some.sky.now c.requires.apart c.in-Some.ensures.0)

pub returns-in-Some : goal.returns-in-Some
returns-in-Some c =
    let a = c.args.times.from.0 in
    let b = c.args.times.to.0 in (
      λ yes. seen_by c.args.skies.now c.args.target.0 c.args.site.0 c.in-Some.sky.now a b c.in-Some.ensures.0 c.in-Some.ensures.1
          (subst (λ (spans : List Span). OneHasAll spans a b) c.as_slice.ensures (c.lies_in_sorted.ensures.0 yes)),
      λ seen. c.lies_in_sorted.ensures.1 (subst (λ (spans : List Span). OneHasAll spans a b) (sym c.as_slice.ensures)
          (seen_one c.args.skies.now c.args.target.0 c.args.site.0 c.in-Some.sky.now a b c.requires.rise c.in-Some.ensures.0 c.in-Some.ensures.1 seen)),
    )
