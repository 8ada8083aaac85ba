-- What contracts see of a registry, and when it refuses.
use Rattle.std.specs.Prelude.{◌≡◌, ℕ, ◌^◌, ◌-◌, ◌<◌, min, Bool, true, false, ◌&&◌, List, ◌++◌, ◌∷◌, [], All, Contains}
use Rattle.std.specs.Prelude.{Option, Some, None, if◌then◌else◌, map, length, take, position, slice_get}
use Rattle.std.specs.List.{list_any}
use Rattle.std.specs.Map.{keys_of, lookup}
use Rattle.std.specs.Option.{option_map, option_map_or, option_or}
use Rattle.plan_base.specs.declared.number.TelescopeNo.{TelescopeNo}
use Rattle.site_model.specs.declared.code.Code.{Code}
use Rattle.site_model.specs.declared.code.Scope.{Scope}
use Rattle.site_model.specs.declared.code.Scope.TheVariants.{Telescope, Site}
use Rattle.site_model.specs.declared.code.InstrumentTimes.{InstrumentTimes}
use Rattle.site_model.specs.declared.fault.SiteFault.{SiteFault}
use Rattle.site_model.specs.declared.fault.SiteFault.TheVariants.{NoSuchTelescope, NoSuchSite, Repeated, NoSuchInstrument}
use Rattle.site_model.specs.declared.fault.FullOf.TheVariants.{Instruments, Telescopes, Sites, Targets}
use Rattle.plan_base.specs.Limits.{most_telescopes}
use Rattle.site_model.specs.Limits.{full_of}
use Rattle.site_model.specs.Names.{◌>>=◌, is_name, is_code, is_named, number_of, numbered, first_unnamed}

-- a telescope as it was registered: its code, its class and the instruments that it carries
pub record TelescopeSeen : Type 0 where
  pub code : Code
  pub class : List ℕ
  pub instruments : List (List ℕ)

-- the instruments with their times, and the sites, telescopes and targets, each list in the order of its numbers
pub record RegistrySeen : Type 0 where
  pub instruments : List (List ℕ × InstrumentTimes)
  pub sites : List (List ℕ)
  pub telescopes : List TelescopeSeen
  pub targets : List (List ℕ)

-- the greatest number that names a place in a list
abbrev pub most_index : ℕ
most_index = 2 ^ 32 - 1

-- no instrument, no site, no telescope and no target
abbrev pub no_registry : RegistrySeen
no_registry = record { instruments = []; sites = []; telescopes = []; targets = [] }

-- the names of the instruments
abbrev pub instrument_names : RegistrySeen → List (List ℕ)
instrument_names r = keys_of r.instruments

-- the times of an instrument, where it is registered
abbrev pub times_of : RegistrySeen → List ℕ → Option InstrumentTimes
times_of r name = lookup (is_name name) r.instruments

-- the codes of the telescopes
abbrev pub codes_of : RegistrySeen → List Code
codes_of r = map (λ t. t.code) r.telescopes

-- the number of the telescope of this code
abbrev pub code_number : RegistrySeen → Code → Option ℕ
code_number r code = position (is_code code) (codes_of r)

-- the number of the site of a telescope
abbrev pub site_number : RegistrySeen → ℕ → Option ℕ
site_number r t = slice_get (codes_of r) t >>= λ c. number_of r.sites c.site

-- whether a telescope has this code
abbrev pub is_coded : RegistrySeen → Code → Bool
is_coded r code = list_any (is_code code) (codes_of r)

-- with one more instrument
abbrev pub with_instrument : RegistrySeen → List ℕ → InstrumentTimes → RegistrySeen
with_instrument r name times = record r { instruments = r.instruments ++ (name, times) ∷ [] }

-- with one more telescope, whose site is numbered where it is new
abbrev pub with_telescope : RegistrySeen → TelescopeSeen → RegistrySeen
with_telescope r t = record r { sites = numbered r.sites t.code.site; telescopes = r.telescopes ++ t ∷ [] }

-- with a number for a target
abbrev pub with_target : RegistrySeen → List ℕ → RegistrySeen
with_target r name = record r { targets = numbered r.targets name }

-- without the targets from a number on
abbrev pub without_targets : ℕ → RegistrySeen → RegistrySeen
without_targets from r = record r { targets = take from r.targets }

-- why an instrument isn't registered, if it isn't
abbrev pub instrument_refusal : RegistrySeen → List ℕ → Option SiteFault
instrument_refusal r name = if is_named (instrument_names r) name then Some Repeated else full_of Instruments (length r.instruments)

-- the refusal of the first name that isn't one of the instruments
abbrev pub unknown_of : List (List ℕ) → List (List ℕ) → Option SiteFault
unknown_of instruments given = option_map (λ i. NoSuchInstrument (min i most_index)) (first_unnamed instruments given)

-- the refusal of one site too many
abbrev pub full_sites : RegistrySeen → List ℕ → Option SiteFault
full_sites r site = if is_named r.sites site then None else full_of Sites (length r.sites)

-- why a telescope isn't registered, if it isn't
abbrev pub telescope_refusal : RegistrySeen → Code → List (List ℕ) → Option SiteFault
telescope_refusal r code given =
    option_or (unknown_of (instrument_names r) given)
    (if is_coded r code then Some Repeated else option_or (full_of Telescopes (length r.telescopes)) (full_sites r code.site))

-- why a target gets no number, if it gets none
abbrev pub target_refusal : RegistrySeen → List ℕ → Option SiteFault
target_refusal r name = if is_named r.targets name then None else full_of Targets (length r.targets)

-- whether a telescope has the class, the site, the enclosure and the code where these are given, and the instrument
abbrev pub fits : TelescopeSeen → List ℕ → Option (List ℕ) → Option (List ℕ) → Option (List ℕ) → List ℕ → Bool
fits t class site enclosure code instrument =
    is_name t.class class && option_map_or (is_name t.code.site) site true && option_map_or (is_name t.code.enclosure) enclosure true
    && option_map_or (is_name t.code.telescope) code true && list_any (is_name instrument) t.instruments

-- whether telescope t fits
abbrev pub fits_at : RegistrySeen → ℕ → List ℕ → Option (List ℕ) → Option (List ℕ) → Option (List ℕ) → List ℕ → Bool
fits_at r t class site enclosure code instrument =
    option_map_or (λ telescope. fits telescope class site enclosure code instrument) (slice_get r.telescopes t) false

-- telescope t is one of those that a closure or a reopening is about
abbrev pub InScope : RegistrySeen → Scope → ℕ → Type 0
InScope r (Telescope code) t = slice_get (codes_of r) t ≡ Some code
InScope r (Site name) t = slice_get (map (λ c. c.site) (codes_of r)) t ≡ Some name

-- why there are no telescopes to close or reopen, if there are none
abbrev pub scope_refusal : RegistrySeen → Scope → Option SiteFault
scope_refusal r (Telescope code) = if is_coded r code then None else Some NoSuchTelescope
scope_refusal r (Site name) = if is_named r.sites name then None else Some NoSuchSite

-- the numbers are those of the telescopes that a closure or a reopening is about, each within the most
pub record IsScopeList (r : RegistrySeen) (scope : Scope) (numbers : List TelescopeNo) : Type 0 where
  pub each : All (λ n. InScope r scope n.0) numbers
  pub all : (t : ℕ) → InScope r scope t → Contains numbers record { 0 = t }
  pub within : All (λ n. n.0 < most_telescopes) numbers
