use Rattle.std.proofs.Common.{◌≡◌, ◌≢◌, ℕ, ◌∙◌, refl, sym, ap, subst, Some, None}
use Rattle.site_model.specs.declared.calendar.SkyKey.{SkyKey}
use Rattle.site_model.specs.declared.fault.SiteFault.TheVariants.{NoMemory}
use Rattle.site_model.specs.Names.{number_of}
use Rattle.site_model.specs.Calendar.{CalendarSeen, with_sky, sky_refusal}
use Rattle.site_model.specs.Network.{NetworkSeen, visibility_refusal, HaveNoSky}
use Rattle.site_model.specs.NetworkInside.{seen_registry, seen_network}
use Rattle.site_model.proofs.Calls.{changes, refuses, passes_on}
use Rattle.site_model.proofs.Carried.{registry_stays}
use Rattle.site_model.proofs.Visibility.{site_found, site_missing, numbered_in, sky_set, refusal_is, refuses_target, refuses_unknown, as_before, still_unseen}
use Rattle.site_model.proofs.network.Network.set_visibility.Goals as goal

pub returns-in_default : goal.returns-in_default
returns-in_default c =
    let none = site_missing c.find_site.result (number_of c.args.self.now.registry.sites c.args.site.now) c.in_default.is c.find_site.ensures.number in
    refuses _ _ _ _ _ (λ _. refuses_unknown c.args.self.now c.args.target.now c.args.site.now c.args.spans.now none) refl

pub returns-in_err-target : goal.returns-in_err-target
returns-in_err-target c =
    let site = site_found (number_of c.args.self.now.registry.sites c.args.site.now) c.in-Some.site c.in-Some.ensures.number in
    let refused : c.in_err-target.field-0.0 ≢ NoMemory → visibility_refusal c.args.self.now c.args.target.now c.args.site.now c.args.spans.now
    ≡ Some c.in_err-target.field-0.0
    = λ memory. refuses_target c.args.self.now c.args.target.now c.args.site.now c.args.spans.now c.in-Some.site.0 c.in_err-target.field-0.0 site
    (c.in_err-target.ensures.numbered.refused memory) in
    passes_on _ _ _ _ c.in_err-target.field-0.0 _ c.from_residual.ensures.1 refused c.in_err-target.ensures.numbered.unchanged

pub returns-in-Err : goal.returns-in-Err
returns-in-Err c =
    let n = c.args.self.now in
    let key : SkyKey = record { target = c.in_ok-target.target; site = c.in-Some.site } in
    let added = c.self.view_is ∙ c.in_ok-target.ensures.numbered.ok in
    let is = numbered_in n (seen_network c.self.inside) c.args.target.now c.args.site.now c.in_ok-target.target c.in-Some.site
    (site_found (number_of n.registry.sites c.args.site.now) c.in-Some.site c.in-Some.ensures.number) added
    (subst (λ (m : NetworkSeen). number_of m.registry.targets c.args.target.now ≡ Some c.in_ok-target.target.0)
    (sym c.self.view_is) c.in_ok-target.ensures.number)
    c.in_ok-target.ensures.numbered.allowed in
    let calendar : c.self.inside.calendar ≡ n.calendar = ap (λ (m : NetworkSeen). m.calendar) added in
    refuses _ _ _ _ _
    (λ memory. refusal_is n c.args.target.now c.args.site.now c.args.spans.now (seen_registry c.self.inside) c.in_ok-target.target c.in-Some.site is
    ∙ subst (λ (k : CalendarSeen). sky_refusal k key c.args.spans.now ≡ Some c.in-Err.fault) calendar (c.in-Err.ensures.refused memory))
    (c.forget_targets.ensures ∙ as_before n (seen_network c.self.inside) c.args.target.now c.targets-known.result c.set_sky.new.self added
    c.targets-known.ensures.count c.in-Err.ensures.unchanged)

pub invariant_of-self-in_default-set_sky : goal.invariant_of-self-in_default-set_sky
invariant_of-self-in_default-set_sky c =
    let n = c.args.self.now in
    let key : SkyKey = record { target = c.in_ok-target.target; site = c.in-Some.site } in
    let added = c.self.view_is ∙ c.in_ok-target.ensures.numbered.ok in
    let is = numbered_in n (seen_network c.self.inside) c.args.target.now c.args.site.now c.in_ok-target.target c.in-Some.site
    (site_found (number_of n.registry.sites c.args.site.now) c.in-Some.site c.in-Some.ensures.number) added
    (subst (λ (m : NetworkSeen). number_of m.registry.targets c.args.target.now ≡ Some c.in_ok-target.target.0)
    (sym c.self.view_is) c.in_ok-target.ensures.number)
    c.in_ok-target.ensures.numbered.allowed in
    let calendar : c.self.inside.calendar ≡ n.calendar = ap (λ (m : NetworkSeen). m.calendar) added in
    record {
      registry = registry_stays c.self.inside c.set_sky.new.self c.self.invariant.registry;
      numbered = still_unseen n c.args.target.now c.args.site.now c.args.spans.now
          (seen_registry c.self.inside) c.in_ok-target.target c.in-Some.site c.set_sky.new.self is
          (c.in_default-set_sky.ensures.ok ∙ ap (λ (k : CalendarSeen). with_sky k key c.args.spans.now) calendar)
          (subst (λ (known : ℕ). HaveNoSky known n.calendar) c.targets-known.ensures.count c.targets-known.ensures.unseen);
    }

pub returns : goal.returns
returns c =
    let n = c.args.self.now in
    let key : SkyKey = record { target = c.in_ok-target.target; site = c.in-Some.site } in
    let added = c.self.view_is ∙ c.in_ok-target.ensures.numbered.ok in
    let is = numbered_in n (seen_network c.self.inside) c.args.target.now c.args.site.now c.in_ok-target.target c.in-Some.site
    (site_found (number_of n.registry.sites c.args.site.now) c.in-Some.site c.in-Some.ensures.number) added
    (subst (λ (m : NetworkSeen). number_of m.registry.targets c.args.target.now ≡ Some c.in_ok-target.target.0)
    (sym c.self.view_is) c.in_ok-target.ensures.number)
    c.in_ok-target.ensures.numbered.allowed in
    let calendar : c.self.inside.calendar ≡ n.calendar = ap (λ (m : NetworkSeen). m.calendar) added in
    changes _ _ _ _ _
    (refusal_is n c.args.target.now c.args.site.now c.args.spans.now (seen_registry c.self.inside) c.in_ok-target.target c.in-Some.site is
    ∙ subst (λ (k : CalendarSeen). sky_refusal k key c.args.spans.now ≡ None) calendar c.in_default-set_sky.ensures.allowed)
    (sky_set n c.args.target.now c.args.site.now c.args.spans.now (seen_registry c.self.inside) c.in_ok-target.target c.in-Some.site c.set_sky.new.self is
    (c.in_default-set_sky.ensures.ok ∙ ap (λ (k : CalendarSeen). with_sky k key c.args.spans.now) calendar))
