use Rattle.std.proofs.Common.{◌≡◌, ◌≤◌}
use Rattle.snapshot_starts.proofs.Keeping.{AreTried}
use Rattle.snapshot_starts.proofs.mend.new_slices.Given as goal

abbrev pub invariant-loop-slice : goal.invariant-loop-slice
invariant-loop-slice l = AreTried l.parts l.request l.telescope l.fn.from.0 l.slice l.slices.items × (l.fn.to.0 ≤ l.fn.from.0 → l.slice ≡ l.fn.from.0)
