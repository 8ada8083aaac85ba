use Rattle.std.proofs.Common.{ℕ, ◌<◌}
use Rattle.std.specs.Prelude.{HoldsAt}
use Rattle.plan_base.specs.BySpans.{IsVisibleThrough}
use Rattle.snapshot_starts.proofs.possible.are_visible.Given as goal

abbrev pub invariant-loop-target : goal.invariant-loop-target
invariant-loop-target l = (k : ℕ) → k < l.target-index → HoldsAt (λ target. IsVisibleThrough l.parts target.0 l.site.0 l.times.from.0 l.times.to.0) l.targets k
