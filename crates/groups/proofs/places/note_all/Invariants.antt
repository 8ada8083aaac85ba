use Rattle.groups.specs.Places.{AreNotes}
use Rattle.groups.proofs.places.note_all.Given as goal

abbrev pub invariant-loop-place : goal.invariant-loop-place
invariant-loop-place l = AreNotes l.snapshot l.noted.items
