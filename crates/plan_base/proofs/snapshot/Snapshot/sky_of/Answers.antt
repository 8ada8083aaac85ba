use Rattle.std.proofs.Common.{◌∙◌, ap, subst, sym}
use Rattle.plan_base.specs.declared.parts.Parts.{Parts}
use Rattle.plan_base.specs.Skies.{SkiesRise}
use Rattle.plan_base.proofs.snapshot.Snapshot.sky_of.Goals as goal

pub sky_of-requires : goal.sky_of-requires
sky_of-requires c = subst SkiesRise (sym (c.as_slice.ensures ∙ ap (λ (s : Parts). s.skies) c.parts.ensures.value)) c.parts.ensures.orderly.skies_rise
