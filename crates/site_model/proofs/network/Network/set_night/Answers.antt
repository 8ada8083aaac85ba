use Rattle.std.proofs.Common.{◌≡◌, subst, Some, refl, sym, ap, ◌∙◌}
use Rattle.site_model.specs.Calendar.{CalendarSeen}
use Rattle.site_model.specs.Network.{NetworkSeen}
use Rattle.site_model.specs.NetworkInside.{seen_registry, seen_network}
use Rattle.site_model.specs.Names.{number_of}
use Rattle.site_model.proofs.Calls.{changes, refuses}
use Rattle.site_model.proofs.Visibility.{network_of, site_found, site_missing, refuses_site, allows_site, night_set}
use Rattle.site_model.proofs.network.Network.set_night.Goals as goal

pub returns-in_default : goal.returns-in_default
returns-in_default c =
    let none = site_missing c.find_site.result (number_of c.args.self.now.registry.sites c.args.site.now) c.in_default.is c.find_site.ensures.number in
    refuses _ _ _ _ _ (λ _. refuses_site c.args.self.now.registry c.args.site.now none) refl

pub returns : goal.returns
returns c =
    let site = site_found (number_of c.args.self.now.registry.sites c.args.site.now) c.in-Some.site c.in-Some.ensures.number in
    let here : number_of c.self.inside.sites.keys c.args.site.now ≡ Some c.in-Some.site.0
    = subst (λ (n : NetworkSeen). number_of n.registry.sites c.args.site.now ≡ Some c.in-Some.site.0) (sym c.self.view_is) site in
    rw (← c.self.view_is)
    (changes _ _ _ _ _ (allows_site (seen_registry c.self.inside) c.args.site.now c.in-Some.site.0 here)
    (ap (λ (k : CalendarSeen). network_of (seen_registry c.self.inside) k) c.in_ok-set_night.ensures.ok
    ∙ sym (night_set (seen_network c.self.inside) c.args.site.now c.in-Some.site.0 c.args.spans.now here)))
