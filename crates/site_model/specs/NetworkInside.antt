-- How a network keeps what is seen of it.
use Rattle.std.specs.Prelude.{◌≡◌, ℕ, ◌≤◌, List, Some, map, length, All}
use Rattle.std.specs.Map.{keys_of}
use Rattle.site_model.specs.declared.code.Code.{Code}
use Rattle.site_model.specs.declared.telescope.Telescope.{Telescope}
use Rattle.site_model.specs.declared.network.Network.TheInside.{Inside}
use Rattle.plan_base.specs.Limits.{most_telescopes}
use Rattle.site_model.specs.Limits.{most_instruments, most_sites, most_targets}
use Rattle.site_model.specs.Names.{number_of}
use Rattle.site_model.specs.Kept.{name_at, ArePlaces}
use Rattle.site_model.specs.Registry.{RegistrySeen, TelescopeSeen}
use Rattle.site_model.specs.Network.{NetworkSeen, HaveNoSky}

-- the telescope that an entry stands for
abbrev pub seen_telescope : List (List ℕ) → Code × Telescope → TelescopeSeen
seen_telescope instruments entry = record { code = entry.0; class = entry.1.class; instruments = map (name_at instruments) entry.1.instruments }

-- what is registered
abbrev pub seen_registry : Inside → RegistrySeen
seen_registry a = record {
  instruments = a.instruments.entries;
  sites = a.sites.keys;
  telescopes = map (seen_telescope (keys_of a.instruments.entries)) a.telescopes.entries;
  targets = a.targets.keys;
}

-- the instruments and the site of a telescope are registered
pub record IsTied (instruments sites : List (List ℕ)) (entry : Code × Telescope) : Type 0 where
  pub carried : ArePlaces instruments entry.1.instruments
  pub site : number_of sites entry.0.site ≡ Some entry.1.site.0

-- no list is longer than it may be, and telescopes name what is registered
pub record IsRegistry (a : Inside) : Type 0 where
  pub few_instruments : length a.instruments.entries ≤ most_instruments
  pub few_sites : length a.sites.keys ≤ most_sites
  pub few_telescopes : length a.telescopes.entries ≤ most_telescopes
  pub few_targets : length a.targets.keys ≤ most_targets
  pub tied : All (IsTied (keys_of a.instruments.entries) a.sites.keys) a.telescopes.entries

-- what is seen of the fields
abbrev pub seen_network : Inside → NetworkSeen
seen_network a = record { registry = seen_registry a; calendar = a.calendar }

-- the registry is in order, and only targets that have a number have a sky
pub record IsNetwork (a : Inside) : Type 0 where
  pub registry : IsRegistry a
  pub numbered : HaveNoSky (length a.targets.keys) a.calendar
