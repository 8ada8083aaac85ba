use Rattle.std.proofs.Common.{◌≡◌, ℕ, nat_le, nat_lt, ◌&&◌, cond, length, slice_index_or}
use Rattle.repair.proofs.marks.write_marks.Given as goal

abbrev pub invariant-loop-slot : goal.invariant-loop-slot
invariant-loop-slot l =
    (length l.marks.items ≡ length l.fn.marks.items)
    × ((i : ℕ) → slice_index_or l.marks.items i 0 ≡ cond (nat_le l.from i && nat_lt i l.slot) l.mark (slice_index_or l.fn.marks.items i 0))
