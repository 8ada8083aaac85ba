-- What the network makes of nights and skies.
use Rattle.std.proofs.Common.{◌≡◌, ℕ, ◌<◌, ◌≤◌, Bool, List, [], Option, Some, None, refl, sym, ap, ◌∙◌, subst, length, take, arith, if◌then◌else◌}
use Rattle.std.specs.Option.{option_map, option_map_or, option_or, option_and_then}
use Rattle.std.proofs.lemmas.Grind.{common_steps}
use Rattle.std.proofs.lemmas.List.Quantifiers.{position-Some}
use Rattle.plan_base.specs.declared.number.SiteNo.{SiteNo}
use Rattle.plan_base.specs.declared.number.TargetNo.{TargetNo}
use Rattle.plan_base.specs.declared.span.Span.{Span}
use Rattle.site_model.specs.declared.calendar.SkyKey.{SkyKey}
use Rattle.site_model.specs.declared.fault.SiteFault.{SiteFault}
use Rattle.site_model.specs.declared.fault.SiteFault.TheVariants.{NoSuchSite}
use Rattle.site_model.specs.Names.{is_name, number_of, numbered}
use Rattle.site_model.specs.Registry.{RegistrySeen, with_target, without_targets, target_refusal}
use Rattle.site_model.specs.Calendar.{CalendarSeen, with_night, with_sky, sky_of, sky_refusal}
use Rattle.site_model.specs.Network.{NetworkSeen, adds_target, forgets_targets, site_refusal, sets_night, sky_key, sets_visibility, visibility_refusal}
use Rattle.site_model.specs.Network.{HaveNoSky}
use Rattle.site_model.proofs.Numbered.{list_any-none, list_any-some}
use Rattle.site_model.proofs.Skies.{other_target}

-- the number of a site that was found
pub site_found : (o : Option ℕ) (s : SiteNo) → Some s ≡ option_map (λ n. record { 0 = n }) o → o ≡ Some s.0
site_found None s e = cc
site_found (Some n) s e = ap (λ (o : Option SiteNo). option_map (λ x. x.0) o) (sym e)

-- there is no number where none was found
pub site_missing : (found : Option SiteNo) (o : Option ℕ) → found ≡ None → found ≡ option_map (λ n. record { 0 = n }) o → o ≡ None
site_missing found None none is = refl
site_missing found (Some n) none is = cc

pub refuses_site : (r : RegistrySeen) (site : List ℕ) → number_of r.sites site ≡ None → site_refusal r site ≡ Some NoSuchSite
refuses_site r site none = ap (λ (b : Bool). if b then None else Some NoSuchSite) (list_any-none (is_name site) r.sites none)

pub allows_site : (r : RegistrySeen) (site : List ℕ) (s : ℕ) → number_of r.sites site ≡ Some s → site_refusal r site ≡ None
allows_site r site s some = ap (λ (b : Bool). if b then None else Some NoSuchSite) (list_any-some (is_name site) r.sites s some)

pub night_set : (n : NetworkSeen) (site : List ℕ) (s : ℕ) (spans : List Span) → number_of n.registry.sites site ≡ Some s
    → sets_night n site spans ≡ record n { calendar = with_night n.calendar s spans }
night_set n site s spans some = ap (λ (o : Option ℕ). option_map_or (λ t. record n { calendar = with_night n.calendar t spans }) o n) some

-- the numbers of a target and of a site
pub key_is : (r : RegistrySeen) (target site : List ℕ) (t : TargetNo) (s : SiteNo) → number_of r.targets target ≡ Some t.0
    → number_of r.sites site ≡ Some s.0 → sky_key r target site ≡ Some record { target = t; site = s }
key_is r target site t s at_t at_s =
    ap (λ (o : Option ℕ). option_and_then
    (λ t. option_map (λ s. record { target = record { 0 = t }; site = record { 0 = s } }) (number_of r.sites site)) o) at_t
    ∙ ap (λ (o : Option ℕ). option_map (λ s. record { target = t; site = record { 0 = s } }) o) at_s

-- what is known once the site was found and the target has its number
pub record IsNumbered (n : NetworkSeen) (target site : List ℕ) (r : RegistrySeen) (t : TargetNo) (s : SiteNo) : Type 0 where
  pub site_at : number_of n.registry.sites site ≡ Some s.0
  pub targets : r ≡ with_target n.registry target
  pub target_at : number_of r.targets target ≡ Some t.0
  pub allowed : target_refusal n.registry target ≡ None

-- from the network that has the number
pub numbered_in : (n m : NetworkSeen) (target site : List ℕ) (t : TargetNo) (s : SiteNo) → number_of n.registry.sites site ≡ Some s.0 → m ≡ adds_target n target
    → number_of m.registry.targets target ≡ Some t.0 → target_refusal n.registry target ≡ None → IsNumbered n target site m.registry t s
numbered_in n m target site t s site_at added target_at allowed =
    record { site_at = site_at; targets = ap (λ (m : NetworkSeen). m.registry) added; target_at = target_at; allowed = allowed }

-- its key
pub numbered_key : (n : NetworkSeen) (target site : List ℕ) (r : RegistrySeen) (t : TargetNo) (s : SiteNo) → IsNumbered n target site r t s
    → sky_key (with_target n.registry target) target site ≡ Some record { target = t; site = s }
numbered_key n target site r t s is =
    key_is (with_target n.registry target) target site t s
    (subst (λ (q : RegistrySeen). number_of q.targets target ≡ Some t.0) is.targets is.target_at) is.site_at

-- what is seen of a registry and a calendar
abbrev pub network_of : RegistrySeen → CalendarSeen → NetworkSeen
network_of r c = record { registry = r; calendar = c }

pub sky_set : (n : NetworkSeen) (target site : List ℕ) (spans : List Span) (r : RegistrySeen) (t : TargetNo) (s : SiteNo) (c : CalendarSeen)
    → IsNumbered n target site r t s → c ≡ with_sky n.calendar record { target = t; site = s } spans
    → network_of r c ≡ sets_visibility n target site spans
sky_set n target site spans r t s c is with =
    ap (λ (q : RegistrySeen). network_of q c) is.targets ∙ ap (λ (d : CalendarSeen). network_of (with_target n.registry target) d) with
    ∙ sym (ap (λ (o : Option SkyKey). option_map_or
    (λ key. record { registry = with_target n.registry target; calendar = with_sky n.calendar key spans }) o n)
    (numbered_key n target site r t s is))

-- the refusal is that of the pieces
pub refusal_is : (n : NetworkSeen) (target site : List ℕ) (spans : List Span) (r : RegistrySeen) (t : TargetNo) (s : SiteNo) → IsNumbered n target site r t s
    → visibility_refusal n target site spans ≡ sky_refusal n.calendar record { target = t; site = s } spans
refusal_is n target site spans r t s is =
    ap (λ (o : Option SiteFault). option_or o
    (option_or (target_refusal n.registry target)
    (option_and_then (λ key. sky_refusal n.calendar key spans) (sky_key (with_target n.registry target) target site))))
    (allows_site n.registry site s.0 is.site_at)
    ∙ ap (λ (o : Option SiteFault). option_or o
    (option_and_then (λ key. sky_refusal n.calendar key spans) (sky_key (with_target n.registry target) target site))) is.allowed
    ∙ ap (λ (o : Option SkyKey). option_and_then (λ key. sky_refusal n.calendar key spans) o) (numbered_key n target site r t s is)

-- the refusal is that of the target
pub refuses_target : (n : NetworkSeen) (target site : List ℕ) (spans : List Span) (s : ℕ) (fault : SiteFault)
    → number_of n.registry.sites site ≡ Some s → target_refusal n.registry target ≡ Some fault
    → visibility_refusal n target site spans ≡ Some fault
refuses_target n target site spans s fault some refused =
    ap (λ (o : Option SiteFault). option_or o
    (option_or (target_refusal n.registry target)
    (option_and_then (λ key. sky_refusal n.calendar key spans) (sky_key (with_target n.registry target) target site))))
    (allows_site n.registry site s some)
    ∙ ap (λ (o : Option SiteFault). option_or o
    (option_and_then (λ key. sky_refusal n.calendar key spans) (sky_key (with_target n.registry target) target site))) refused

-- the refusal is that of the site
pub refuses_unknown : (n : NetworkSeen) (target site : List ℕ) (spans : List Span) → number_of n.registry.sites site ≡ None
    → visibility_refusal n target site spans ≡ Some NoSuchSite
refuses_unknown n target site spans none =
    ap (λ (o : Option SiteFault). option_or o
    (option_or (target_refusal n.registry target)
    (option_and_then (λ key. sky_refusal n.calendar key spans) (sky_key (with_target n.registry target) target site))))
    (refuses_site n.registry site none)

-- a new name goes last
length_numbered : (names : List (List ℕ)) (name : List ℕ) → length names ≤ length (numbered names name)
length_numbered names name = grind (arith, common_steps)

take_numbered : (names : List (List ℕ)) (name : List ℕ) → take (length names) (numbered names name) ≡ names
take_numbered names name = grind (arith, common_steps)

abbrev with_targets : RegistrySeen → List (List ℕ) → RegistrySeen
with_targets r names = record r { targets = names }

-- the registry once a new target is forgotten
pub forgotten : (r : RegistrySeen) (target : List ℕ) → without_targets (length r.targets) (with_target r target) ≡ r
forgotten r target = ap (λ (ts : List (List ℕ)). with_targets r ts) (take_numbered r.targets target)

-- a network whose new target is forgotten is as before
pub as_before : (n m : NetworkSeen) (target : List ℕ) (known : ℕ) (c : CalendarSeen) → m ≡ adds_target n target
    → known ≡ length n.registry.targets → c ≡ m.calendar
    → forgets_targets known (network_of m.registry c) ≡ n
as_before n m target known c added count same =
    (λ j. network_of (without_targets (count j) (added j).registry) ((same ∙ ap (λ (m : NetworkSeen). m.calendar) added) j))
    ∙ ap (λ (r : RegistrySeen). network_of r n.calendar) (forgotten n.registry target)

-- targets without a number have no sky
pub still_unseen : (n : NetworkSeen) (target site : List ℕ) (spans : List Span) (r : RegistrySeen) (t : TargetNo) (s : SiteNo) (c : CalendarSeen)
    → IsNumbered n target site r t s → c ≡ with_sky n.calendar record { target = t; site = s } spans
    → HaveNoSky (length n.registry.targets) n.calendar → HaveNoSky (length r.targets) c
still_unseen n target site spans r t s c is with unseen key from =
    let more : length n.registry.targets ≤ length r.targets = rw is.targets (length_numbered n.registry.targets target) in
    let below : t.0 < length r.targets = (position-Some (is_name target) r.targets t.0 [] is.target_at).0 in
    ap (λ (d : CalendarSeen). sky_of d.skies key) with ∙ other_target n.calendar.skies record { target = t; site = s } key spans (omega arith)
    ∙ unseen key (omega arith)
