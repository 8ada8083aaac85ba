use Rattle.std.proofs.Common.{take}
use Rattle.snapshot_starts.proofs.Sets.{AreSlicesOf}
use Rattle.snapshot_starts.proofs.slices.slices_in_any.Given as goal

abbrev pub invariant-loop-span : goal.invariant-loop-span
invariant-loop-span l = AreSlicesOf l.len l.seconds (take l.span-index l.spans) l.slices.items
