-- Why a telescope isn't registered.
use Rattle.std.proofs.Common.{◌≡◌, ℕ, ◌<◌, true, false, List, Option, Some, None, sym, ap, ◌∙◌, length, cond, if◌then◌else◌, inl, inr}
use Rattle.std.specs.Option.{is_some, option_or}
use Rattle.std.specs.Map.{keys_of, lookup}
use Rattle.std.proofs.lemmas.Bool.{cases_lt, le-leb}
use Rattle.std.proofs.lemmas.List.{length-map}
use Rattle.std.proofs.lemmas.Option.{none-some}
use Rattle.site_model.specs.declared.code.Code.{Code}
use Rattle.site_model.specs.declared.fault.SiteFault.{SiteFault}
use Rattle.site_model.specs.declared.fault.SiteFault.TheVariants.{Repeated}
use Rattle.site_model.specs.declared.fault.FullOf.{FullOf}
use Rattle.site_model.specs.declared.fault.FullOf.TheVariants.{Telescopes, Sites}
use Rattle.site_model.specs.declared.network.Network.TheInside.{Inside}
use Rattle.site_model.specs.Names.{is_code, is_named}
use Rattle.site_model.specs.Limits.{most_of, full, full_of}
use Rattle.site_model.specs.Registry.{full_sites, unknown_of, telescope_refusal}
use Rattle.site_model.specs.NetworkInside.{seen_telescope, seen_registry}
use Rattle.site_model.proofs.Carried.{is_coded-seen}

-- there is room for one more
pub below_full : (what : FullOf) (n : ℕ) → full_of what n ≡ None → n < most_of what
below_full what n h =
    elim (cases_lt n (most_of what)) [
      | inl below ↦ below
      | inr above ↦ absurd (none-some (full what) (sym h ∙ ap (λ b. cond b (Some (full what)) None) (le-leb (most_of what) n above)))
    ]

-- what is left of the refusals once the instruments are known
known : (a : Inside) (code : Code) (given : List (List ℕ)) → unknown_of (keys_of a.instruments.entries) given ≡ None
    → telescope_refusal (seen_registry a) code given
    ≡ (if is_some (lookup (is_code code) a.telescopes.entries) then Some Repeated
    else option_or (full_of Telescopes (length a.telescopes.entries)) (full_sites (seen_registry a) code.site))
known a code given unknown =
    (λ j. option_or (unknown j)
    (if is_coded-seen a code j then Some Repeated
    else option_or (full_of Telescopes (length-map a.telescopes.entries (seen_telescope (keys_of a.instruments.entries)) j))
    (full_sites (seen_registry a) code.site)))

pub repeated : (a : Inside) (code : Code) (given : List (List ℕ)) → unknown_of (keys_of a.instruments.entries) given ≡ None
    → is_some (lookup (is_code code) a.telescopes.entries) ≡ true
    → telescope_refusal (seen_registry a) code given ≡ Some Repeated
repeated a code given unknown there =
    known a code given unknown ∙ ap (λ b. if b then Some Repeated
    else option_or (full_of Telescopes (length a.telescopes.entries)) (full_sites (seen_registry a) code.site)) there

-- and once the code is new
new_code : (a : Inside) (code : Code) (given : List (List ℕ)) → unknown_of (keys_of a.instruments.entries) given ≡ None
    → is_some (lookup (is_code code) a.telescopes.entries) ≡ false
    → telescope_refusal (seen_registry a) code given ≡ option_or (full_of Telescopes (length a.telescopes.entries)) (full_sites (seen_registry a) code.site)
new_code a code given unknown new =
    known a code given unknown ∙ ap (λ b. if b then Some Repeated
    else option_or (full_of Telescopes (length a.telescopes.entries)) (full_sites (seen_registry a) code.site)) new

pub too_many : (a : Inside) (code : Code) (given : List (List ℕ)) (fault : SiteFault) → unknown_of (keys_of a.instruments.entries) given ≡ None
    → is_some (lookup (is_code code) a.telescopes.entries) ≡ false
    → full_of Telescopes (length a.telescopes.entries) ≡ Some fault → telescope_refusal (seen_registry a) code given ≡ Some fault
too_many a code given fault unknown new full = new_code a code given unknown new ∙ ap (λ o. option_or o (full_sites (seen_registry a) code.site)) full

pub by_sites : (a : Inside) (code : Code) (given : List (List ℕ)) (refusal : Option SiteFault)
    → unknown_of (keys_of a.instruments.entries) given ≡ None → is_some (lookup (is_code code) a.telescopes.entries) ≡ false
    → full_of Telescopes (length a.telescopes.entries) ≡ None
    → (if is_named a.sites.keys code.site then None else full_of Sites (length a.sites.keys)) ≡ refusal
    → telescope_refusal (seen_registry a) code given ≡ refusal
by_sites a code given refusal unknown new room sites = new_code a code given unknown new
    ∙ ap (λ o. option_or o (full_sites (seen_registry a) code.site)) room ∙ sites
