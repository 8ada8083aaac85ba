use Rattle.std.proofs.Common.{◌≡◌, ℕ, nat_le, nat_lt, ◌&&◌, false, true, cond, length, slice_index_or}
use Rattle.bound_checker.proofs.overlap.occupy.Given as goal

abbrev pub invariant-loop-slot : goal.invariant-loop-slot
invariant-loop-slot l =
    (length l.flags.items ≡ length l.fn.flags.items)
    × ((i : ℕ) → slice_index_or l.flags.items i false ≡ cond (nat_le l.fn.slots.from i && nat_lt i l.slot) true
    (slice_index_or l.fn.flags.items i false))
