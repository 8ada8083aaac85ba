use Rattle.repair.specs.Worths.{AreOffersOf}
use Rattle.repair.proofs.offers.offers_of.Given as goal

abbrev pub invariant-loop-place : goal.invariant-loop-place
invariant-loop-place l = AreOffersOf l.snapshot l.place l.offers.items
