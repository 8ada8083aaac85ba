use Rattle.std.proofs.Common.{take}
use Rattle.repair.specs.Repairs.{AreNoted}
use Rattle.repair.proofs.ranked.note_ranks.Given as goal

abbrev pub invariant-loop-start : goal.invariant-loop-start
invariant-loop-start l = AreNoted l.snapshot (take l.start-index l.starts) l.noted.items
