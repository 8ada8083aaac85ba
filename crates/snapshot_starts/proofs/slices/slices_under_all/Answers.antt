use Rattle.std.proofs.Common.{◌+◌, ◌*◌}
use Rattle.plan_base.specs.BySpans.{IsVisibleThrough}
use Rattle.snapshot_starts.proofs.Narrowing.{none_seen, more_seen, all_seen}
use Rattle.snapshot_starts.proofs.slices.slices_under_all.Goals as goal

pub loop-target-init : goal.loop-target-init
loop-target-init c =
    let s = c.args.parts.now in
    none_seen (λ target j. IsVisibleThrough s target.0 c.args.site.0 (j * s.len) (j * s.len + c.args.seconds)) c.args.targets.now
    c.args.slices c.requires.sorted

pub loop-target-preserved : goal.loop-target-preserved
loop-target-preserved c =
    let s = c.args.parts.now in
    more_seen (λ target j. IsVisibleThrough s target.0 c.args.site.0 (j * s.len) (j * s.len + c.args.seconds)) c.args.targets.now
    c.loop-target.target-index (record { 0 = 0 }) c.args.slices c.loop-target.left c.in_ok-left.left c.loop-target-test.true
    c.loop-target.invariant c.in_ok-left.ensures

pub returns : goal.returns
returns c =
    let s = c.args.parts.now in
    all_seen (λ target j. IsVisibleThrough s target.0 c.args.site.0 (j * s.len) (j * s.len + c.args.seconds)) c.args.targets.now
    c.loop-target.target-index c.args.slices c.loop-target.left c.loop-target-test.false c.loop-target.invariant
    c.loop-target.auto.target-index-end
