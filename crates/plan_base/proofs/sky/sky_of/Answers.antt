use Rattle.std.proofs.Common.{subst, sym, ◌∙◌}
use Rattle.std.proofs.lemmas.List.{get_or_default}
use Rattle.std.proofs.lemmas.Bool.{false≢true}
use Rattle.plan_base.specs.Skies.{IsSkyOf}
use Rattle.plan_base.proofs.Skies.{no_sky}
use Rattle.plan_base.proofs.sky.sky_of.Goals as goal

pub returns-else-is_sky_of : goal.returns-else-is_sky_of
returns-else-is_sky_of c =
    no_sky c.args.skies.now c.args.target.0 c.args.site.0 c.count_below-place.result c.requires c.count_below-place.ensures
    (λ l d here.
    let is : IsSkyOf c.args.target.0 c.args.site.0 c.index-skies-place.result =
    subst (IsSkyOf c.args.target.0 c.args.site.0) (get_or_default c.args.skies.now c.count_below-place.result d c.index-skies-place.result l
    ∙ sym c.index-skies-place.is) here in
    false≢true (sym c.if-is_sky_of.false ∙ c.is_sky_of.ensures.1 is))
