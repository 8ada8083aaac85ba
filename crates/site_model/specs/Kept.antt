-- What is kept of telescopes: instruments by their places, sites by their numbers.
use Rattle.std.specs.Prelude.{◌≡◌, ℕ, ◌<◌, Bool, true, false, nat_eq, ◌&&◌, List, [], Option, length, slice_index_or, slice_get, Some, All, Contains}
use Rattle.std.specs.Option.{option_map_or}
use Rattle.std.specs.List.{list_any}
use Rattle.plan_base.specs.declared.number.SiteNo.{SiteNo}
use Rattle.plan_base.specs.declared.number.TelescopeNo.{TelescopeNo}
use Rattle.site_model.specs.declared.code.Code.{Code}
use Rattle.site_model.specs.declared.telescope.Telescope.{Telescope}
use Rattle.site_model.specs.Names.{is_name, number_of}
use Rattle.plan_base.specs.Limits.{most_telescopes}

-- the name at a place
abbrev pub name_at : List (List ℕ) → ℕ → List ℕ
name_at names i = slice_index_or names i []

-- each place has a name
abbrev pub ArePlaces : List (List ℕ) → List ℕ → Type 0
ArePlaces names places = All (λ i. i < length names) places

-- whether a telescope has the class, and the site, the enclosure and the code where these are given
abbrev pub has_names : Code → Telescope → List ℕ → Option (List ℕ) → Option (List ℕ) → Option (List ℕ) → Bool
has_names names telescope class site enclosure code =
    is_name telescope.class class && option_map_or (is_name names.site) site true && option_map_or (is_name names.enclosure) enclosure true
    && option_map_or (is_name names.telescope) code true

-- whether a telescope carries the instrument of a name
abbrev pub carries : List (List ℕ) → Telescope → List ℕ → Bool
carries instruments telescope name = option_map_or (λ n. list_any (nat_eq n) telescope.instruments) (number_of instruments name) false

-- entry t is a telescope of the site
abbrev pub IsOfSite : List (Code × Telescope) → SiteNo → ℕ → Type 0
IsOfSite entries site t = (entry : Code × Telescope) × (slice_get entries t ≡ Some entry) × (entry.1.site ≡ site)

-- the numbers are those of the telescopes of the site
pub record IsAtSite (entries : List (Code × Telescope)) (site : SiteNo) (numbers : List TelescopeNo) : Type 0 where
  pub each : All (λ n. IsOfSite entries site n.0) numbers
  pub all : (t : ℕ) → IsOfSite entries site t → Contains numbers record { 0 = t }
  pub within : All (λ n. n.0 < most_telescopes) numbers
