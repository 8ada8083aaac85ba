use Rattle.std.proofs.Common.{◌+◌, ◌*◌, List, sym, subst}
use Rattle.std.specs.Prelude.{Contains}
use Rattle.std.proofs.lemmas.Result.{IfOk-weaker}
use Rattle.plan_base.specs.declared.parts.Sky.{Sky}
use Rattle.plan_base.specs.declared.span.Span.{Span}
use Rattle.plan_base.specs.BySpans.{OneHasAll}
use Rattle.snapshot_starts.specs.Slices.{AreSlices}
use Rattle.snapshot_starts.proofs.Narrowing.{under_set}
use Rattle.plan_base.specs.Skies.{SkiesRise}
use Rattle.snapshot_starts.proofs.slices.slices_under.Goals as goal

pub returns-in_ok-seen-in-Some : goal.returns-in_ok-seen-in-Some
returns-in_ok-seen-in-Some c =
    let s = c.args.parts.now in
    let d = c.args.seconds in
    let seen : AreSlices (λ k. OneHasAll c.in-Some.sky.now.spans (k * s.len) (k * s.len + d)) c.in_ok-seen-in-Some.seen =
    subst (λ (spans : List Span). AreSlices (λ k. OneHasAll spans (k * s.len) (k * s.len + d)) c.in_ok-seen-in-Some.seen) c.as_slice-in-Some.ensures
    c.in_ok-seen-in-Some.ensures in
    let in_skies : Contains s.skies c.in-Some.sky.now = subst (λ (skies : List Sky). Contains skies c.in-Some.sky.now) c.as_slice.ensures c.in-Some.ensures.0 in
    IfOk-weaker c.meet.result _ _ (λ meet is. under_set s c.args.target.0 c.args.site.0 d c.in-Some.sky.now c.args.slices.now
    c.in_ok-seen-in-Some.seen meet c.requires in_skies c.in-Some.ensures.1 seen is) c.meet.ensures

pub sky_of-requires : goal.sky_of-requires
sky_of-requires c = subst SkiesRise (sym c.as_slice.ensures) c.requires.skies_rise

pub slices_in_any-requires : goal.slices_in_any-requires
slices_in_any-requires c = c.requires.ranges.len_least
