use Rattle.std.proofs.Common.{◌*◌, ◌+◌}
use Rattle.std.specs.Prelude.{IsTrue}
use Rattle.plan_base.specs.BySpans.{IsVisibleThrough}
use Rattle.interval_set.specs.Spans.{has}
use Rattle.snapshot_starts.specs.Slices.{AreSlices}
use Rattle.snapshot_starts.proofs.Narrowing.{AreSeen}
use Rattle.snapshot_starts.proofs.slices.slices_under_all.Given as goal

abbrev pub invariant-loop-target : goal.invariant-loop-target
invariant-loop-target l =
    AreSlices (λ k. IsTrue (has l.fn.slices k)
    × AreSeen (λ target j. IsVisibleThrough l.parts target.0 l.site.0 (j * l.parts.len) (j * l.parts.len + l.seconds)) l.targets l.target-index k)
    l.left
