-- Which telescopes a closure or a reopening is about.
use Rattle.std.proofs.Common.{◌≡◌, ℕ, ◌<◌, ◌&&◌, true, false, List, [], ◌∷◌, Option, Some, None, All, Contains, refl, sym, ap, subst, ◌∙◌, length}
use Rattle.std.proofs.Common.{get_or, map, position, slice_get, if◌then◌else◌, zero, suc}
use Rattle.std.specs.List.{IsDistinct}
use Rattle.std.specs.Map.{keys_of}
use Rattle.std.specs.Option.{option_map}
use Rattle.std.proofs.lemmas.Bool.{and_parts}
use Rattle.std.proofs.lemmas.Cmp.{nat_list_eq_equiv}
use Rattle.std.proofs.lemmas.Option.{none-some, same_Some, slice_get_within, slice_get-get_or, get_or_from_slice_get}
use Rattle.std.proofs.lemmas.List.Elements.{All-head, All-tail, All-nil, All-cons, All-weaker, Contains-push}
use Rattle.std.proofs.lemmas.List.Quantifiers.{position-Some}
use Rattle.std.proofs.lemmas.Map.Keys.{apart_from_distinct}
use Rattle.plan_base.specs.declared.number.SiteNo.{SiteNo}
use Rattle.plan_base.specs.declared.number.TelescopeNo.{TelescopeNo}
use Rattle.site_model.specs.declared.code.Code.{Code}
use Rattle.site_model.specs.declared.code.Scope.TheVariants as scope
use Rattle.site_model.specs.declared.fault.SiteFault.TheVariants.{NoSuchTelescope, NoSuchSite}
use Rattle.site_model.specs.declared.telescope.Telescope.{Telescope}
use Rattle.site_model.specs.declared.network.Network.TheInside.{Inside}
use Rattle.site_model.specs.Names.{is_name, is_code, number_of}
use Rattle.site_model.specs.Kept.{IsOfSite, IsAtSite}
use Rattle.plan_base.specs.Limits.{most_telescopes}
use Rattle.site_model.specs.Registry.{RegistrySeen, codes_of, code_number, InScope, scope_refusal, IsScopeList}
use Rattle.site_model.specs.NetworkInside.{seen_telescope, seen_registry, IsTied, IsRegistry}
use Rattle.site_model.proofs.Numbered.{list_any-none, list_any-some, name_same, same_number, position_some}
use Rattle.site_model.proofs.Carried.{codes-seen, code_number-seen}

-- codes that pass the test are the same
pub code_same : (a b : Code) → is_code a b ≡ true → a ≡ b
code_same a b h =
    let parts = and_parts (is_name a.site b.site) (is_name a.enclosure b.enclosure && is_name a.telescope b.telescope) h in
    let rest = and_parts (is_name a.enclosure b.enclosure) (is_name a.telescope b.telescope) parts.1 in
    λ j. record {
      site = name_same a.site b.site parts.0 j;
      enclosure = name_same a.enclosure b.enclosure rest.0 j;
      telescope = name_same a.telescope b.telescope rest.1 j;
    }

code_itself : (a : Code) → is_code a a ≡ true
code_itself a = λ j. nat_list_eq_equiv.refl a.site j && (nat_list_eq_equiv.refl a.enclosure j && nat_list_eq_equiv.refl a.telescope j)

code_turned : (a b : Code) → is_code a b ≡ is_code b a
code_turned a b = λ j. nat_list_eq_equiv.symm a.site b.site j
    && (nat_list_eq_equiv.symm a.enclosure b.enclosure j && nat_list_eq_equiv.symm a.telescope b.telescope j)

-- where no code is given twice, its place is its number
code_only : (codes : List Code) (code : Code) (t : ℕ) → IsDistinct is_code codes → slice_get codes t ≡ Some code → position (is_code code) codes ≡ Some t
code_only codes code t distinct at =
    let l : t < length codes = slice_get_within codes t code at in
    let read : get_or codes t code ≡ code = get_or_from_slice_get codes t code code at in
    position_some (is_code code) codes t code l
    (λ k below. code_turned code (get_or codes k code)
    ∙ subst (λ c. is_code (get_or codes k code) c ≡ false) read (apart_from_distinct is_code codes k t code distinct below l))
    (ap (is_code code) read ∙ code_itself code)

pub number_only : (a : Inside) (code : Code) (t : ℕ) → IsDistinct is_code (keys_of a.telescopes.entries)
    → slice_get (codes_of (seen_registry a)) t ≡ Some code → code_number (seen_registry a) code ≡ Some t
number_only a code t distinct at =
    code_number-seen a code ∙ code_only (keys_of a.telescopes.entries) code t distinct
    (subst (λ l. slice_get l t ≡ Some code) (codes-seen (keys_of a.instruments.entries) a.telescopes.entries) at)

-- a number that was put into its type
back : {A : Type 0} (f : ℕ → A) (g : A → ℕ) → ((n : ℕ) → g (f n) ≡ n) → (o : Option ℕ) (a : A) → option_map f o ≡ Some a → o ≡ Some (g a)
back f g h None a e = absurd (none-some a e)
back f g h (Some n) a e = ap (λ k. Some k) (sym (h n) ∙ ap g (same_Some (f n) a e))

no_number : {A : Type 0} (f : ℕ → A) (o : Option ℕ) → option_map f o ≡ None → o ≡ None
no_number f None e = refl
no_number f (Some n) e = absurd (none-some (f n) (sym e))

-- no telescope has the code
pub no_telescope : (r : RegistrySeen) (code : Code) → option_map {T = ℕ} {U = TelescopeNo} (λ n. record { 0 = n }) (code_number r code) ≡ None
    → scope_refusal r (scope.Telescope code) ≡ Some NoSuchTelescope
no_telescope r code none = ap (λ b. if b then None else Some NoSuchTelescope)
    (list_any-none (is_code code) (codes_of r) (no_number (λ n. record { 0 = n }) (code_number r code) none))

-- a telescope has it
pub code_known : (r : RegistrySeen) (code : Code) (n : TelescopeNo)
    → option_map {T = ℕ} {U = TelescopeNo} (λ n. record { 0 = n }) (code_number r code) ≡ Some n → code_number r code ≡ Some n.0
code_known r code n found = back (λ m. record { 0 = m }) (λ m. m.0) (λ m. refl) (code_number r code) n found

pub telescope_allowed : (r : RegistrySeen) (code : Code) (n : ℕ) → code_number r code ≡ Some n → scope_refusal r (scope.Telescope code) ≡ None
telescope_allowed r code n at = ap (λ b. if b then None else Some NoSuchTelescope) (list_any-some (is_code code) (codes_of r) n at)

-- no telescope is at the site
pub no_site : (r : RegistrySeen) (name : List ℕ) → option_map {T = ℕ} {U = SiteNo} (λ n. record { 0 = n }) (number_of r.sites name) ≡ None
    → scope_refusal r (scope.Site name) ≡ Some NoSuchSite
no_site r name none = ap (λ b. if b then None else Some NoSuchSite)
    (list_any-none (is_name name) r.sites (no_number (λ n. record { 0 = n }) (number_of r.sites name) none))

-- a telescope is there
pub site_known : (r : RegistrySeen) (name : List ℕ) (n : SiteNo) → option_map {T = ℕ} {U = SiteNo} (λ n. record { 0 = n }) (number_of r.sites name)
    ≡ Some n → number_of r.sites name ≡ Some n.0
site_known r name n found = back (λ m. record { 0 = m }) (λ m. m.0) (λ m. refl) (number_of r.sites name) n found

pub site_allowed : (r : RegistrySeen) (name : List ℕ) (n : ℕ) → number_of r.sites name ≡ Some n → scope_refusal r (scope.Site name) ≡ None
site_allowed r name n at = ap (λ b. if b then None else Some NoSuchSite) (list_any-some (is_name name) r.sites n at)

-- the scope of one telescope
pub scope_of_one : (r : RegistrySeen) (code : Code) (n : TelescopeNo) → code_number r code ≡ Some n.0 → n.0 < most_telescopes
    → ((t : ℕ) → slice_get (codes_of r) t ≡ Some code → code_number r code ≡ Some t)
    → IsScopeList r (scope.Telescope code) (n ∷ [])
scope_of_one r code n at few only =
    let first = position-Some (is_code code) (codes_of r) n.0 code at in
    let here : slice_get (codes_of r) n.0 ≡ Some code = slice_get-get_or (codes_of r) n.0 code first.0
    ∙ ap (λ c. Some c) (sym (code_same code (get_or (codes_of r) n.0 code) first.1)) in
    record {
      each = All-cons (λ m. InScope r (scope.Telescope code) m.0) n [] here (All-nil _);
      all = λ t there. subst (λ m. Contains (n ∷ []) record { 0 = m }) (same_Some n.0 t (sym at ∙ only t there)) (Contains-push [] n);
      within = All-cons (λ m. m.0 < most_telescopes) n [] few (All-nil _);
    }

seen_at : (ins sites : List (List ℕ)) (es : List (Code × Telescope)) (name : List ℕ) (site : SiteNo) (t : ℕ) → All (IsTied ins sites) es
    → number_of sites name ≡ Some site.0 → IsOfSite es site t
    → slice_get (map (λ c. c.site) (map (λ s. s.code) (map (seen_telescope ins) es))) t ≡ Some name
seen_at ins sites [] name site t tied at of = absurd (none-some of.0 of.1)
seen_at ins sites (e ∷ es) name site zero tied at of =
    let entry : e ≡ of.0 = same_Some e of.0 of.1 in
    let number : number_of sites e.0.site ≡ Some site.0 = (All-head (IsTied ins sites) e es tied).site ∙ ap (λ x. Some x.1.site.0) entry
    ∙ ap (λ s. Some s.0) of.2 in
    ap (λ x. Some x) (same_number sites e.0.site name site.0 number at)
seen_at ins sites (e ∷ es) name site (suc t) tied at of = seen_at ins sites es name site t (All-tail (IsTied ins sites) e es tied) at of

kept_at : (ins sites : List (List ℕ)) (es : List (Code × Telescope)) (name : List ℕ) (site : SiteNo) (t : ℕ) → All (IsTied ins sites) es
    → number_of sites name ≡ Some site.0
    → slice_get (map (λ c. c.site) (map (λ s. s.code) (map (seen_telescope ins) es))) t ≡ Some name → IsOfSite es site t
kept_at ins sites [] name site t tied at there = absurd (none-some name there)
kept_at ins sites (e ∷ es) name site zero tied at there =
    let number : number_of sites name ≡ Some e.1.site.0 = subst (λ x. number_of sites x ≡ Some e.1.site.0) (same_Some e.0.site name there)
    (All-head (IsTied ins sites) e es tied).site in
    (e, refl, λ j. record { 0 = same_Some e.1.site.0 site.0 (sym number ∙ at) j })
kept_at ins sites (e ∷ es) name site (suc t) tied at there = kept_at ins sites es name site t (All-tail (IsTied ins sites) e es tied) at there

-- the scope of a site
pub scope_of_site : (a : Inside) (name : List ℕ) (site : SiteNo) (numbers : List TelescopeNo) → IsRegistry a
    → number_of a.sites.keys name ≡ Some site.0 → IsAtSite a.telescopes.entries site numbers
    → IsScopeList (seen_registry a) (scope.Site name) numbers
scope_of_site a name site numbers inv at here =
    let ins = keys_of a.instruments.entries in
    record {
      each = All-weaker (λ n. IsOfSite a.telescopes.entries site n.0) _
          (λ n of. seen_at ins a.sites.keys a.telescopes.entries name site n.0 inv.tied at of) numbers here.each;
      all = λ t there. here.all t (kept_at ins a.sites.keys a.telescopes.entries name site t inv.tied at there);
      within = here.within;
    }
