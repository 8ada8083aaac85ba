use Rattle.explain.specs.Explained.{AreLeftTo}
use Rattle.explain.proofs.why.explained.Given as goal

abbrev pub invariant-loop-place : goal.invariant-loop-place
invariant-loop-place l = AreLeftTo l.snapshot l.claim l.place l.lefts.items
