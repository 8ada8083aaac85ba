use Rattle.std.proofs.Common.{ℕ, ◌+◌, slice_index_or, arith}
use Rattle.bound_checker.specs.Sights.{IsInSkies}
use Rattle.bound_checker.proofs.Alike.{IsInFirst, stretch_said, stretch_none, sky_more, sky_clear}
use Rattle.bound_checker.proofs.sight.stretch_in_skies.Goals as goal

pub stretch_in_sorted-sky-requires-clause-moments : goal.stretch_in_sorted-sky-requires-clause-moments
stretch_in_sorted-sky-requires-clause-moments c =
    (sky_clear c.args.skies.now (slice_index_or c.args.views.now c.loop-view.view-index 0) c.index-skies-view.result c.as_slice.result.now
    c.requires.clear (c.requires.views c.loop-view.view-index 0 c.loop-view-test.true) c.as_slice.ensures).moments

pub stretch_in_sorted-sky-requires-clause-apart : goal.stretch_in_sorted-sky-requires-clause-apart
stretch_in_sorted-sky-requires-clause-apart c =
    (sky_clear c.args.skies.now (slice_index_or c.args.views.now c.loop-view.view-index 0) c.index-skies-view.result c.as_slice.result.now
    c.requires.clear (c.requires.views c.loop-view.view-index 0 c.loop-view-test.true) c.as_slice.ensures).apart

pub returns-then-not-stretch : goal.returns-then-not-stretch
returns-then-not-stretch c =
    stretch_none (IsInFirst c.args.skies.now c.args.views.now c.args.observation (c.loop-view.view-index + 1))
    (IsInSkies c.args.skies.now c.args.views.now c.args.observation) c.args.slice c.both-stretch.result c.if-not-stretch.true
    (λ j h n below. h n (omega arith))
    (sky_more c.args.skies.now c.args.views.now c.args.observation c.loop-view.view-index c.args.slice c.loop-view.stretch
    c.stretch_in_sorted-sky.result c.both-stretch.result c.index-skies-view.result c.as_slice.result.now
    (c.requires.views c.loop-view.view-index 0 c.loop-view-test.true) c.as_slice.ensures c.loop-view.invariant
    c.stretch_in_sorted-sky.ensures c.both-stretch.ensures)

pub loop-view-preserved : goal.loop-view-preserved
loop-view-preserved c = sky_more c.args.skies.now c.args.views.now c.args.observation c.loop-view.view-index c.args.slice c.loop-view.stretch
    c.stretch_in_sorted-sky.result c.both-stretch.result c.index-skies-view.result c.as_slice.result.now
    (c.requires.views c.loop-view.view-index 0 c.loop-view-test.true) c.as_slice.ensures c.loop-view.invariant
    c.stretch_in_sorted-sky.ensures c.both-stretch.ensures

pub returns : goal.returns
returns c =
    stretch_said (IsInFirst c.args.skies.now c.args.views.now c.args.observation c.loop-view.view-index)
    (IsInSkies c.args.skies.now c.args.views.now c.args.observation) c.args.slice c.loop-view.stretch (λ j h n below. h n (omega arith))
    (λ j h n below. h n (omega arith)) c.loop-view.invariant
