use Rattle.std.proofs.Common.{take}
use Rattle.snapshot_starts.specs.Mending.{IsSameWithin}
use Rattle.snapshot_starts.proofs.shared.parts_within.Given as goal

abbrev pub invariant-loop-span : goal.invariant-loop-span
invariant-loop-span l = IsSameWithin l.times (take l.span-index l.spans) l.parts.items
