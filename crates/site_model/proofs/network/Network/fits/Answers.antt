use Rattle.std.proofs.Common.{◌≡◌, ◌&&◌, Some, map, slice_get, option_copied, sym, ap, ◌∙◌, arith}
use Rattle.std.specs.List.{list_any}
use Rattle.std.specs.Map.{keys_of}
use Rattle.std.proofs.lemmas.Grind.{common_steps}
use Rattle.site_model.specs.Names.{is_name}
use Rattle.site_model.specs.Kept.{name_at}
use Rattle.site_model.proofs.Fitting.{fits-seen, carries-seen, carried_at}
use Rattle.site_model.proofs.network.Network.fits.Goals as goal

pub returns-then-not-has_names : goal.returns-then-not-has_names
returns-then-not-has_names c =
    let pair = c.in-Some.ensures.entry in
    let at : slice_get c.self.inside.telescopes.entries c.args.telescope.0 ≡ Some (c.in-Some.names.now, c.in-Some.kept.now) =
    first_of (cc, grind (arith, common_steps)) in
    let carried = list_any (is_name c.args.instrument.now) (map (name_at (keys_of c.self.inside.instruments.entries)) c.in-Some.kept.now.instruments) in
    rw (← c.self.view_is)
    (sym (fits-seen c.self.inside c.args.telescope.0 c.in-Some.names.now c.in-Some.kept.now c.args.class.now (option_copied c.args.site)
    (option_copied c.args.enclosure)
    (option_copied c.args.code) c.args.instrument.now at
    ∙ ap (λ b. b && carried) (sym c.has_names.ensures ∙ c.if-not-has_names.true)))

pub returns : goal.returns
returns c =
    let pair = c.in-Some.ensures.entry in
    let at : slice_get c.self.inside.telescopes.entries c.args.telescope.0 ≡ Some (c.in-Some.names.now, c.in-Some.kept.now) =
    first_of (cc, grind (arith, common_steps)) in
    let names = keys_of c.self.inside.instruments.entries in
    let places = carried_at c.self.inside c.args.telescope.0 c.in-Some.names.now c.in-Some.kept.now c.self.invariant.registry at in
    let carried = list_any (is_name c.args.instrument.now) (map (name_at names) c.in-Some.kept.now.instruments) in
    rw (← c.self.view_is)
    (c.carries.ensures.carries ∙ sym (carries-seen names c.args.instrument.now c.in-Some.kept.now c.carries.ensures.once places)
    ∙ sym (fits-seen c.self.inside c.args.telescope.0 c.in-Some.names.now c.in-Some.kept.now c.args.class.now (option_copied c.args.site)
    (option_copied c.args.enclosure)
    (option_copied c.args.code) c.args.instrument.now at
    ∙ ap (λ b. b && carried) (sym c.has_names.ensures ∙ c.if-not-has_names.false)))
