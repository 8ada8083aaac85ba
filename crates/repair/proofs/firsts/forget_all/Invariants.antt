use Rattle.std.proofs.Common.{◌≡◌, ℕ, ◌<◌, None, length, slice_index_or}
use Rattle.repair.proofs.firsts.forget_all.Given as goal

abbrev pub invariant-loop-place : goal.invariant-loop-place
invariant-loop-place g l = (length l.notes.items ≡ length l.fn.notes.items) × ((i : ℕ) → i < l.place → slice_index_or l.notes.items i None ≡ None)
