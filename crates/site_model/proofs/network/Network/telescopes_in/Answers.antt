use Rattle.std.proofs.Common.{◌≡◌, Some, None, sym, subst, ◌∙◌}
use Rattle.std.proofs.lemmas.Result.{MatchResult-weaker}
use Rattle.site_model.specs.declared.code.Scope.TheVariants as scope
use Rattle.site_model.specs.declared.fault.SiteFault.TheVariants.{NoSuchTelescope, NoSuchSite}
use Rattle.site_model.specs.Names.{number_of}
use Rattle.site_model.specs.Registry.{code_number, scope_refusal, IsScopeList}
use Rattle.site_model.proofs.Scopes.{no_telescope, code_known, telescope_allowed, no_site, site_known, site_allowed, scope_of_one, scope_of_site}
use Rattle.site_model.proofs.network.Network.telescopes_in.Goals as goal

pub returns-in_default-clause-refused : goal.returns-in_default-clause-refused
returns-in_default-clause-refused c =
    λ _. subst (λ s. scope_refusal c.args.self.now.registry s ≡ Some NoSuchTelescope) (sym c.in-Telescope.is)
    (no_telescope c.args.self.now.registry c.in-Telescope.code (sym c.find_telescope.ensures.number ∙ c.in_default.is))

pub returns-in_default-find_site-clause-refused : goal.returns-in_default-find_site-clause-refused
returns-in_default-find_site-clause-refused c =
    λ _. subst (λ s. scope_refusal c.args.self.now.registry s ≡ Some NoSuchSite) (sym c.in-Site.is)
    (no_site c.args.self.now.registry c.in-Site.name (sym c.find_site.ensures.number ∙ c.in_default-find_site.is))

pub returns-in_ok-from_slice-in-Telescope-clause-numbers : goal.returns-in_ok-from_slice-in-Telescope-clause-numbers
returns-in_ok-from_slice-in-Telescope-clause-numbers c =
    let r = c.args.self.now.registry in
    let at : code_number r c.in-Telescope.code ≡ Some c.in-Some.telescope.0 =
    code_known r c.in-Telescope.code c.in-Some.telescope (sym c.find_telescope.ensures.number ∙ c.in-Some.is) in
    subst (λ s. IsScopeList r s c.in_ok-from_slice-in-Telescope.field-0.items) (sym c.in-Telescope.is)
    (subst (IsScopeList r (scope.Telescope c.in-Telescope.code)) (sym c.in_ok-from_slice-in-Telescope.ensures.items)
    (scope_of_one r c.in-Telescope.code c.in-Some.telescope at c.in-Some.ensures.few c.find_telescope.ensures.only))

pub returns-in_ok-from_slice-in-Telescope-clause-allowed : goal.returns-in_ok-from_slice-in-Telescope-clause-allowed
returns-in_ok-from_slice-in-Telescope-clause-allowed c =
    let r = c.args.self.now.registry in
    let at : code_number r c.in-Telescope.code ≡ Some c.in-Some.telescope.0 =
    code_known r c.in-Telescope.code c.in-Some.telescope (sym c.find_telescope.ensures.number ∙ c.in-Some.is) in
    subst (λ s. scope_refusal r s ≡ None) (sym c.in-Telescope.is) (telescope_allowed r c.in-Telescope.code c.in-Some.telescope.0 at)

pub returns-in-Some-find_site-clause-numbers : goal.returns-in-Some-find_site-clause-numbers
returns-in-Some-find_site-clause-numbers c =
    let name = c.in-Site.name in
    let site = c.in-Some-find_site.site in
    let at : number_of c.args.self.now.registry.sites name ≡ Some site.0 =
    site_known c.args.self.now.registry name site (sym c.find_site.ensures.number ∙ c.in-Some-find_site.is) in
    MatchResult-weaker c.numbers_at.result c.numbers_at.ensures.numbers
    (λ numbers here.
    subst (λ s. IsScopeList c.args.self.now.registry s numbers.items) (sym c.in-Site.is)
    (subst (λ n. IsScopeList n.registry (scope.Site name) numbers.items) c.self.view_is
    (scope_of_site c.self.inside name site numbers.items c.self.invariant.registry
    (subst (λ n. number_of n.registry.sites name ≡ Some site.0) (sym c.self.view_is) at) here)))
    (λ _ h. h)

pub returns-in-Some-find_site-clause-allowed : goal.returns-in-Some-find_site-clause-allowed
returns-in-Some-find_site-clause-allowed c =
    let at : number_of c.args.self.now.registry.sites c.in-Site.name ≡ Some c.in-Some-find_site.site.0 =
    site_known c.args.self.now.registry c.in-Site.name c.in-Some-find_site.site (sym c.find_site.ensures.number ∙ c.in-Some-find_site.is) in
    let allowed : scope_refusal c.args.self.now.registry c.args.scope.now ≡ None =
    subst (λ s. scope_refusal c.args.self.now.registry s ≡ None) (sym c.in-Site.is)
    (site_allowed c.args.self.now.registry c.in-Site.name c.in-Some-find_site.site.0 at) in
    MatchResult-weaker c.numbers_at.result c.numbers_at.ensures.numbers (λ _ _. allowed) (λ _ h. h)

pub returns-in-Some-find_site-clause-refused : goal.returns-in-Some-find_site-clause-refused
returns-in-Some-find_site-clause-refused c = MatchResult-weaker c.numbers_at.result c.numbers_at.ensures.memory (λ _ h. h)
    (λ fault memory other. absurd (other memory))
