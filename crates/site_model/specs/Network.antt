-- What contracts see of a network, and when it refuses.
use Rattle.std.specs.Prelude.{◌≡◌, ◌≢◌, ℕ, ◌≤◌, ◌⊎◌, List, [], Option, Some, None, if◌then◌else◌, Result, IfErr, OnOk, OnErr}
use Rattle.std.specs.Option.{option_map, option_map_or, option_or, IsSomeAnd}
use Rattle.plan_base.specs.declared.span.Span.{Span}
use Rattle.interval_set.specs.Spans.{IsDifference}
use Rattle.site_model.specs.declared.code.InstrumentTimes.{InstrumentTimes}
use Rattle.site_model.specs.declared.code.Scope.{Scope}
use Rattle.site_model.specs.declared.calendar.SkyKey.{SkyKey}
use Rattle.site_model.specs.declared.changes.Change.{Change}
use Rattle.site_model.specs.declared.fault.SiteFault.{SiteFault}
use Rattle.site_model.specs.declared.fault.SiteFault.TheVariants.{NoSuchSite, NoMemory}
use Rattle.site_model.specs.Names.{◌>>=◌, is_named, number_of}
use Rattle.site_model.specs.Registry.{RegistrySeen, TelescopeSeen, no_registry, with_instrument, with_telescope, with_target, without_targets}
use Rattle.site_model.specs.Registry.{target_refusal, scope_refusal, site_number, InScope}
use Rattle.site_model.specs.Calendar.{CalendarSeen, no_calendar, set_at, sky_of, with_night, with_sky, sky_refusal, IsClosureLine, IsFullClosure}

-- what is registered, and when it may observe
pub record NetworkSeen : Type 0 where
  pub registry : RegistrySeen
  pub calendar : CalendarSeen

-- nothing is registered
abbrev pub no_network : NetworkSeen
no_network = record { registry = no_registry; calendar = no_calendar }

-- with one more instrument
abbrev pub adds_instrument : NetworkSeen → List ℕ → InstrumentTimes → NetworkSeen
adds_instrument n name times = record n { registry = with_instrument n.registry name times }

-- with one more telescope, whose site is numbered where it is new
abbrev pub adds_telescope : NetworkSeen → TelescopeSeen → NetworkSeen
adds_telescope n telescope = record n { registry = with_telescope n.registry telescope }

-- with a number for a target
abbrev pub adds_target : NetworkSeen → List ℕ → NetworkSeen
adds_target n name = record n { registry = with_target n.registry name }

-- without the targets from a number on
abbrev pub forgets_targets : ℕ → NetworkSeen → NetworkSeen
forgets_targets from n = record n { registry = without_targets from n.registry }

-- the refusal of a site that isn't there
abbrev pub site_refusal : RegistrySeen → List ℕ → Option SiteFault
site_refusal r site = if is_named r.sites site then None else Some NoSuchSite

-- with another night of a site
abbrev pub sets_night : NetworkSeen → List ℕ → List Span → NetworkSeen
sets_night n site spans = option_map_or (λ s. record n { calendar = with_night n.calendar s spans }) (number_of n.registry.sites site) n

-- the numbers of a target and a site
abbrev pub sky_key : RegistrySeen → List ℕ → List ℕ → Option SkyKey
sky_key r target site =
    number_of r.targets target >>= λ t. option_map (λ s. record { target = record { 0 = t }; site = record { 0 = s } }) (number_of r.sites site)

-- with a number for the target, and another sky of it at a site
abbrev pub sets_visibility : NetworkSeen → List ℕ → List ℕ → List Span → NetworkSeen
sets_visibility n target site spans =
    let r = with_target n.registry target in
    option_map_or (λ key. record { registry = r; calendar = with_sky n.calendar key spans }) (sky_key r target site) n

-- why a sky isn't taken, if it isn't
abbrev pub visibility_refusal : NetworkSeen → List ℕ → List ℕ → List Span → Option SiteFault
visibility_refusal n target site spans =
    option_or (site_refusal n.registry site) (option_or (target_refusal n.registry target)
    (sky_key (with_target n.registry target) target site >>= λ key. sky_refusal n.calendar key spans))

-- a line closed or reopened the telescopes in its scope, and nothing else changed
pub record ChangesClosures (change : Change) (scope : Scope) (spans : List Span) (old new : NetworkSeen) : Type 0 where
  pub closures : IsClosureLine change (InScope old.registry scope) spans old.calendar.closures new.calendar.closures
  pub rest : new ≡ record old { calendar = record old.calendar { closures = new.calendar.closures } }
  pub allowed : scope_refusal old.registry scope ≡ None

-- the closures of a telescope in the scope would have too many pieces
pub record FillsClosures (change : Change) (scope : Scope) (spans : List Span) (n : NetworkSeen) (fault : SiteFault) : Type 0 where
  pub allowed : scope_refusal n.registry scope ≡ None
  pub full : IsFullClosure change (InScope n.registry scope) spans n.calendar.closures fault

-- why a line closes or reopens nothing: its scope isn't there, or closures would have too many pieces
abbrev pub IsClosureRefusal : Change → Scope → List Span → NetworkSeen → SiteFault → Type 0
IsClosureRefusal change scope spans n fault = (scope_refusal n.registry scope ≡ Some fault) ⊎ FillsClosures change scope spans n fault

-- a line closed or reopened its telescopes, or it was refused, or found no memory, and changed nothing
pub record ClosesOrRefuses (change : Change) (scope : Scope) (spans : List Span) (old new : NetworkSeen) (result : Result Unit SiteFault) : Type 0 where
  pub ok : OnOk result (ChangesClosures change scope spans old new)
  pub refused : IfErr result (λ fault. fault ≢ NoMemory → IsClosureRefusal change scope spans old fault)
  pub unchanged : OnErr result (new ≡ old)

-- the spans are the seconds of the night of the telescope's site that its closures don't have
abbrev pub IsUsable : NetworkSeen → ℕ → List Span → Type 0
IsUsable n t spans = IsSomeAnd (site_number n.registry t) (λ s. IsDifference (set_at n.calendar.nights s) (set_at n.calendar.closures t) spans)

-- no target from a number on has a sky
abbrev pub HaveNoSky : ℕ → CalendarSeen → Type 0
HaveNoSky from c = (key : SkyKey) → from ≤ key.target.0 → sky_of c.skies key ≡ []
