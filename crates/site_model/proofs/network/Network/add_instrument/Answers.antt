use Rattle.std.proofs.Common.{◌≡◌, Some, None, true, false, refl, sym, ap, ◌∙◌, length, if◌then◌else◌, arith}
use Rattle.std.proofs.lemmas.Grind.{common_steps}
use Rattle.std.specs.Map.{keys_of, lookup}
use Rattle.std.proofs.lemmas.Map.Made.{is_some-lookup}
use Rattle.indexmap.proofs.CallerLemmas.{insert_entry-new}
use Rattle.site_model.specs.declared.fault.SiteFault.TheVariants.{Repeated}
use Rattle.site_model.specs.declared.fault.FullOf.TheVariants.{Instruments}
use Rattle.site_model.specs.Limits.{full_of}
use Rattle.site_model.specs.Names.{is_name, is_named}
use Rattle.site_model.specs.Registry.{instrument_refusal}
use Rattle.site_model.proofs.Calls.{changes, refuses, passes_on}
use Rattle.site_model.proofs.Carried.{seen-instrument}
use Rattle.site_model.proofs.Numbered.{none_from_is_some}
use Rattle.site_model.proofs.Visibility.{network_of}
use Rattle.site_model.proofs.network.Network.add_instrument.Goals as goal

pub returns-then-contains_key : goal.returns-then-contains_key
returns-then-contains_key c =
    let named : is_named (keys_of c.self.inside.instruments.entries) c.args.name ≡ true =
    sym (is_some-lookup (is_name c.args.name) c.self.inside.instruments.entries) ∙ sym c.contains_key.ensures ∙ c.if-contains_key.true in
    refuses _ _ _ _ _ (λ _. rw (← c.self.view_is)
    (ap (λ b. if b then Some Repeated else full_of Instruments (length c.self.inside.instruments.entries)) named)) refl

pub returns-in_err-check_room : goal.returns-in_err-check_room
returns-in_err-check_room c =
    let named : is_named (keys_of c.self.inside.instruments.entries) c.args.name ≡ false =
    sym (is_some-lookup (is_name c.args.name) c.self.inside.instruments.entries) ∙ sym c.contains_key.ensures ∙ c.if-contains_key.false in
    let full : full_of Instruments (length c.self.inside.instruments.entries) ≡ Some c.in_err-check_room.field-0.0 =
    rw c.len.ensures.len at c.in_err-check_room.ensures.full in
    let refusal : instrument_refusal c.args.self.now.registry c.args.name ≡ Some c.in_err-check_room.field-0.0 =
    rw (← c.self.view_is) (ap (λ b. if b then Some Repeated else full_of Instruments (length c.self.inside.instruments.entries)) named ∙ full) in
    passes_on _ _ _ _ c.in_err-check_room.field-0.0 _ c.from_residual.ensures.1 (λ _. refusal) refl

pub returns : goal.returns
returns c =
    let missing : lookup (is_name c.args.name) c.self.inside.instruments.entries ≡ None =
    none_from_is_some _ (sym c.contains_key.ensures ∙ c.if-contains_key.false) in
    let named : is_named (keys_of c.self.inside.instruments.entries) c.args.name ≡ false =
    sym (is_some-lookup (is_name c.args.name) c.self.inside.instruments.entries) ∙ sym c.contains_key.ensures ∙ c.if-contains_key.false in
    let room : full_of Instruments (length c.self.inside.instruments.entries) ≡ None = rw c.len.ensures.len at c.in_ok-check_room.ensures.room in
    let seen = seen-instrument c.self.inside record c.self.inside { instruments = c.insert.new.self } c.args.name c.args.times
    c.self.invariant.registry (c.in_ok-insert.ensures.entries
    ∙ insert_entry-new is_name c.self.inside.instruments c.args.name c.args.times missing) refl refl refl in
    rw (← c.self.view_is)
    (changes _ _ _ _ _ (ap (λ b. if b then Some Repeated else full_of Instruments (length c.self.inside.instruments.entries)) named ∙ room)
    (ap (λ r. network_of r c.self.inside.calendar) seen))

pub invariant_of-self-2 : goal.invariant_of-self-2
invariant_of-self-2 c = grind (arith, common_steps)
