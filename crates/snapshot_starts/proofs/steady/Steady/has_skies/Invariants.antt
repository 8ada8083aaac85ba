use Rattle.std.proofs.Common.{ℕ, ◌<◌, Contains}
use Rattle.std.specs.Prelude.{HoldsAt}
use Rattle.snapshot_starts.specs.Mending.{sky_key}
use Rattle.snapshot_starts.proofs.steady.Steady.has_skies.Given as goal

abbrev pub invariant-loop-target : goal.invariant-loop-target
invariant-loop-target l = (k : ℕ) → k < l.target-index → HoldsAt (λ target. Contains l.self.skies.items (sky_key target l.site)) l.targets k
