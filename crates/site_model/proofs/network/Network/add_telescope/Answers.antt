use Rattle.std.proofs.Common.{◌≡◌, ◌≢◌, ◌++◌, ◌∷◌, [], Some, None, refl, sym, ap, ◌∙◌, length, map, arith}
use Rattle.std.proofs.lemmas.Grind.{common_steps}
use Rattle.std.specs.Map.{keys_of, lookup}
use Rattle.indexmap.proofs.CallerLemmas.{insert_entry-new}
use Rattle.site_model.specs.declared.fault.SiteFault.TheVariants.{NoMemory}
use Rattle.site_model.specs.declared.fault.FullOf.TheVariants.{Telescopes}
use Rattle.site_model.specs.declared.telescope.Telescope.{Telescope}
use Rattle.site_model.specs.Limits.{full_of}
use Rattle.site_model.specs.Names.{is_code}
use Rattle.site_model.specs.Registry.{telescope_refusal}
use Rattle.site_model.specs.NetworkInside.{seen_telescope, seen_registry, seen_network}
use Rattle.site_model.proofs.Calls.{changes, refuses, passes_on}
use Rattle.site_model.proofs.Carried.{seen-telescope, one_telescope_more}
use Rattle.site_model.proofs.Numbered.{none_from_is_some}
use Rattle.site_model.proofs.Refusing.{below_full, repeated, too_many, by_sites}
use Rattle.site_model.proofs.Visibility.{network_of}
use Rattle.site_model.proofs.network.Network.add_telescope.Goals as goal

pub returns-then-contains_key-clause-added : goal.returns-then-contains_key-clause-added
returns-then-contains_key-clause-added c =
    refuses _ _ _ _ _ (λ _. rw (← c.self.view_is)
    (repeated c.self.inside c.args.code c.args.instruments.now c.in_ok-instruments.ensures.allowed
    (sym c.contains_key.ensures ∙ c.if-contains_key.true))) refl

pub returns-in_err-check_room-clause-added : goal.returns-in_err-check_room-clause-added
returns-in_err-check_room-clause-added c =
    let full : full_of Telescopes (length c.self.inside.telescopes.entries) ≡ Some c.in_err-check_room.field-0.0 =
    rw c.len-place.ensures.len at c.in_err-check_room.ensures.full in
    let refusal : telescope_refusal c.args.self.now.registry c.args.code c.args.instruments.now ≡ Some c.in_err-check_room.field-0.0
    = rw (← c.self.view_is) (too_many c.self.inside c.args.code c.args.instruments.now c.in_err-check_room.field-0.0
    c.in_ok-instruments.ensures.allowed (sym c.contains_key.ensures ∙ c.if-contains_key.false) full) in
    passes_on _ _ _ _ c.in_err-check_room.field-0.0 _ c.from_residual-in_err-check_room.ensures.1 (λ _. refusal) refl

pub returns-in_err-site-clause-added : goal.returns-in_err-site-clause-added
returns-in_err-site-clause-added c =
    let room : full_of Telescopes (length c.self.inside.telescopes.entries) ≡ None = rw c.len-place.ensures.len at c.in_ok-check_room.ensures.room in
    let refusal : c.in_err-site.field-0.0 ≢ NoMemory → telescope_refusal c.args.self.now.registry c.args.code c.args.instruments.now
    ≡ Some c.in_err-site.field-0.0
    = λ other. rw (← c.self.view_is)
    (by_sites c.self.inside c.args.code c.args.instruments.now (Some c.in_err-site.field-0.0) c.in_ok-instruments.ensures.allowed
    (sym c.contains_key.ensures ∙ c.if-contains_key.false) room (c.in_err-site.ensures.numbered.refused other)) in
    let a = c.self.inside in
    let same : seen_network record a { sites = c.number.new.names; telescopes = c.reserve.new.self } ≡ seen_network a
    = λ j. network_of record (seen_registry a) {
      sites = c.in_err-site.ensures.numbered.unchanged j;
      telescopes = map (seen_telescope (keys_of a.instruments.entries)) (c.in_ok-reserve.ensures.entries j);
    } a.calendar in
    passes_on _ _ _ _ c.in_err-site.field-0.0 _ c.from_residual-in_err-site.ensures.1 refusal (same ∙ c.self.view_is)

pub invariant_of-self-2 : goal.invariant_of-self-2
invariant_of-self-2 c =
    let kept : Telescope = record { site = record { 0 = c.in_ok-site.site }; class = c.args.class; instruments = c.in_ok-instruments.instruments } in
    let room : full_of Telescopes (length c.self.inside.telescopes.entries) ≡ None = rw c.len-place.ensures.len at c.in_ok-check_room.ensures.room in
    let missing : lookup (is_code c.args.code) c.reserve.new.self.entries ≡ None = ap (lookup (is_code c.args.code)) c.in_ok-reserve.ensures.entries
    ∙ none_from_is_some _ (sym c.contains_key.ensures ∙ c.if-contains_key.false) in
    let telescopes : c.insert.new.self.entries ≡ c.self.inside.telescopes.entries ++ (c.args.code, kept) ∷ []
    = c.in_ok-insert.ensures.entries ∙ insert_entry-new is_code c.reserve.new.self c.args.code kept missing
    ∙ ap (λ es. es ++ (c.args.code, kept) ∷ []) c.in_ok-reserve.ensures.entries in
    record {
      registry = one_telescope_more c.self.inside record c.self.inside { sites = c.number.new.names; telescopes = c.insert.new.self } c.args.code kept
          c.self.invariant.registry refl c.in_ok-site.ensures.numbered.ok
          (c.number.ensures.few c.self.invariant.registry.few_sites) telescopes
          (below_full Telescopes (length c.self.inside.telescopes.entries) room) refl c.in_ok-instruments.ensures.within
          c.in_ok-site.ensures.number;
      numbered = c.self.invariant.numbered;
    }

pub returns-clause-added : goal.returns-clause-added
returns-clause-added c =
    let kept : Telescope = record { site = record { 0 = c.in_ok-site.site }; class = c.args.class; instruments = c.in_ok-instruments.instruments } in
    let missing : lookup (is_code c.args.code) c.reserve.new.self.entries ≡ None = ap (lookup (is_code c.args.code)) c.in_ok-reserve.ensures.entries
    ∙ none_from_is_some _ (sym c.contains_key.ensures ∙ c.if-contains_key.false) in
    let telescopes : c.insert.new.self.entries ≡ c.self.inside.telescopes.entries ++ (c.args.code, kept) ∷ []
    = c.in_ok-insert.ensures.entries ∙ insert_entry-new is_code c.reserve.new.self c.args.code kept missing
    ∙ ap (λ es. es ++ (c.args.code, kept) ∷ []) c.in_ok-reserve.ensures.entries in
    let seen = seen-telescope c.self.inside record c.self.inside { sites = c.number.new.names; telescopes = c.insert.new.self } c.args.code kept
    c.args.instruments.now refl c.in_ok-site.ensures.numbered.ok telescopes refl c.in_ok-instruments.ensures.places in
    let room : full_of Telescopes (length c.self.inside.telescopes.entries) ≡ None = rw c.len-place.ensures.len at c.in_ok-check_room.ensures.room in
    rw (← c.self.view_is)
    (changes _ _ _ _ _ (by_sites c.self.inside c.args.code c.args.instruments.now None c.in_ok-instruments.ensures.allowed
    (sym c.contains_key.ensures ∙ c.if-contains_key.false) room c.in_ok-site.ensures.numbered.allowed)
    (ap (λ r. network_of r c.self.inside.calendar) seen))

pub returns-clause-number : goal.returns-clause-number
returns-clause-number c = grind (arith, common_steps)
