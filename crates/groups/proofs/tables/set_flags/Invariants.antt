use Rattle.std.proofs.Common.{◌≡◌, ℕ, nat_le, nat_lt, ◌&&◌, false, cond, length, slice_index_or}
use Rattle.groups.proofs.tables.set_flags.Given as goal

abbrev pub invariant-loop-place : goal.invariant-loop-place
invariant-loop-place l =
    (length l.flags.items ≡ length l.fn.flags.items)
    × ((i : ℕ) → slice_index_or l.flags.items i false ≡ cond (nat_le l.from i && nat_lt i l.place) l.value
    (slice_index_or l.fn.flags.items i false))
