use Rattle.std.proofs.Common.{sym, ◌∙◌}
use Rattle.std.proofs.lemmas.Bool.{false≢true}
use Rattle.bound_checker.proofs.Skies.{sky_nowhere}
use Rattle.bound_checker.proofs.sight.find_sky.Goals as goal

pub returns-else-is_sky_at : goal.returns-else-is_sky_at
returns-else-is_sky_at c =
    sky_nowhere c.args.skies.now c.args.target c.args.site c.first_not_below-place.result c.requires c.first_not_below-place.ensures
    (λ there. false≢true (sym c.if-is_sky_at.false ∙ c.is_sky_at.ensures.1 there))
