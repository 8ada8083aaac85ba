use Rattle.std.proofs.Common.{drop}
use Rattle.repair.specs.Firsts.{AreFirsts}
use Rattle.repair.proofs.firsts.note_firsts.Given as goal

abbrev pub invariant-loop-index : goal.invariant-loop-index
invariant-loop-index l = AreFirsts l.snapshot (drop l.index l.starts) l.firsts.items
