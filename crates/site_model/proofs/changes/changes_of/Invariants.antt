use Rattle.std.proofs.Common.{take}
use Rattle.site_model.specs.Calendar.{AreChanges}
use Rattle.site_model.proofs.changes.changes_of.Given as goal

abbrev pub invariant-loop-telescope : goal.invariant-loop-telescope
invariant-loop-telescope l = AreChanges l.change (take l.telescope-index l.telescopes) l.spans l.closures l.changes.items
