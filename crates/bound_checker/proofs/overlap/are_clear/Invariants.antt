use Rattle.std.proofs.Common.{◌≡◌, ℕ, ◌≤◌, ◌<◌, false, slice_index_or}
use Rattle.bound_checker.proofs.overlap.are_clear.Given as goal

abbrev pub invariant-loop-slot : goal.invariant-loop-slot
invariant-loop-slot l = (i : ℕ) → l.fn.slots.from ≤ i → i < l.slot → slice_index_or l.flags i false ≡ false
