use Rattle.site_model.proofs.AtSites.{AtSoFar}
use Rattle.site_model.proofs.telescope.numbers_at.Given as goal

abbrev pub invariant-loop-place : goal.invariant-loop-place
invariant-loop-place l = AtSoFar l.telescopes.entries l.site l.place l.numbers.items
