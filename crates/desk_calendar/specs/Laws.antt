-- What a history tells of its telescopes, of nights and skies, and of when telescopes are closed is so on the desk that it leaves.
use Rattle.std.specs.Prelude.{◌≡◌, ℕ, ◌<◌, IsTrue, IsSomeAnd, ◌↔◌, List, ◌∷◌, ◌++◌, length, slice_get, IfSome, Some}
use Rattle.plan_base.specs.declared.number.TelescopeNo.{TelescopeNo}
use Rattle.plan_io.specs.declared.lines.ScriptLine.{ScriptLine}
use Rattle.interval_set.specs.Spans.{has}
use Rattle.site_model.specs.declared.code.Code.{Code}
use Rattle.site_model.specs.declared.calendar.SkyKey.{SkyKey}
use Rattle.site_model.specs.Calendar.{set_at, sky_of}
use Rattle.site_model.specs.Names.{number_of}
use Rattle.site_model.specs.Network.{sky_key}
use Rattle.site_model.specs.Registry.{codes_of}
use Rattle.desk_events.specs.declared.entry.EventEntry.{EventEntry}
use Rattle.desk_events.specs.declared.reply.Reply.TheVariants as reply
use Rattle.desk_core.specs.Desk.{DeskSeen}
use Rattle.desk_core.specs.DeskSnapshot.{observed_on, is_usable, site_of}
use Rattle.desk_core.specs.History.{IsLegal, replay}
use Rattle.desk_calendar.specs.Nights.{IsNightByLatest}
use Rattle.desk_calendar.specs.Skies.{IsSkyByLatest}
use Rattle.desk_calendar.specs.Told.{code_told, telescopes_told, sites_told, IsClosedByLatest}

-- after every legal history the telescopes of the desk are those that are told, in their order
abbrev pub TelescopesAreTold : Type 0
TelescopesAreTold = (scripts : List (List ScriptLine)) (history : List EventEntry) → IsLegal scripts history
    → IfSome (replay scripts history).desk (λ d. codes_of d.network.registry ≡ telescopes_told scripts history)

-- and the number that an accepted `telescope` line is replied is its place among them
abbrev pub NumbersAreTold : Type 0
NumbersAreTold = (scripts : List (List ScriptLine)) (history before after : List EventEntry) (e : EventEntry) (code : Code) (number : TelescopeNo)
    → IsLegal scripts history → history ≡ before ++ e ∷ after → code_told scripts e ≡ Some code → e.reply ≡ reply.Telescope number
    → number.0 ≡ length (telescopes_told scripts before)

-- after every legal history a second of a telescope is closed exactly where the latest line that is about it is a `close`
abbrev pub ClosuresAreTold : Type 0
ClosuresAreTold = (scripts : List (List ScriptLine)) (history : List EventEntry) (d : DeskSeen) (t x : ℕ)
    → IsLegal scripts history → (replay scripts history).desk ≡ Some d
    → IsTrue (has (set_at d.network.calendar.closures t) x) ↔ IsClosedByLatest scripts history t x

-- ---- sites and nights

-- after every legal history the sites of the desk are those that are told, in their order
abbrev pub SitesAreTold : Type 0
SitesAreTold = (scripts : List (List ScriptLine)) (history : List EventEntry) → IsLegal scripts history
    → IfSome (replay scripts history).desk (λ d. d.network.registry.sites ≡ sites_told scripts history)

-- the latest accepted `night` line of a site has a second exactly where the site has a number and the desk's night of it has the
-- second
abbrev pub NightsAreTold : Type 0
NightsAreTold = (scripts : List (List ScriptLine)) (history : List EventEntry) (d : DeskSeen) (site : List ℕ) (x : ℕ)
    → IsLegal scripts history → (replay scripts history).desk ≡ Some d
    → IsNightByLatest scripts history site x
    ↔ IsSomeAnd (number_of (sites_told scripts history) site) (λ s. IsTrue (has (set_at d.network.calendar.nights s) x))

-- and no number but those of sites has a night
abbrev pub NightsAreOfSites : Type 0
NightsAreOfSites = (scripts : List (List ScriptLine)) (history : List EventEntry) (d : DeskSeen) (s x : ℕ)
    → IsLegal scripts history → (replay scripts history).desk ≡ Some d
    → IsTrue (has (set_at d.network.calendar.nights s) x) → s < length (sites_told scripts history)

-- ---- skies

-- the latest accepted `visibility` line of a target at a site has a second exactly where both have numbers and the desk's sky of
-- these has the second
abbrev pub SkiesAreTold : Type 0
SkiesAreTold = (scripts : List (List ScriptLine)) (history : List EventEntry) (d : DeskSeen) (target site : List ℕ) (x : ℕ)
    → IsLegal scripts history → (replay scripts history).desk ≡ Some d
    → IsSkyByLatest scripts history target site x
    ↔ IsSomeAnd (sky_key d.network.registry target site) (λ key. IsTrue (has (sky_of d.network.calendar.skies key) x))

-- and no numbers but those of targets and sites have a sky
abbrev pub SkiesAreOfTargets : Type 0
SkiesAreOfTargets = (scripts : List (List ScriptLine)) (history : List EventEntry) (d : DeskSeen) (key : SkyKey) (x : ℕ)
    → IsLegal scripts history → (replay scripts history).desk ≡ Some d → IsTrue (has (sky_of d.network.calendar.skies key) x)
    → (key.target.0 < length d.network.registry.targets) × (key.site.0 < length d.network.registry.sites)

-- ---- usable seconds

-- so the desk has each telescope that is told, and a second is usable on it exactly where the latest accepted `night` line of its
-- site has it, the latest line that is about it is no `close`, and nothing runs there
abbrev pub UsableSecondsAreTold : Type 0
UsableSecondsAreTold = (scripts : List (List ScriptLine)) (history : List EventEntry) (d : DeskSeen) (code : Code) (t x : ℕ)
    → IsLegal scripts history → (replay scripts history).desk ≡ Some d → slice_get (telescopes_told scripts history) t ≡ Some code
    → IsSomeAnd (slice_get d.network.registry.telescopes t) (λ telescope. IsTrue (is_usable d (site_of d telescope) t x)
    ↔ (IsNightByLatest scripts history code.site x × ¬ IsClosedByLatest scripts history t x × ¬ IsTrue (has (observed_on d t) x)))

-- the same for any site's number, by the desk's night of that number
abbrev pub UsableByNumber : Type 0
UsableByNumber = (scripts : List (List ScriptLine)) (history : List EventEntry) (d : DeskSeen) (site t x : ℕ)
    → IsLegal scripts history → (replay scripts history).desk ≡ Some d
    → IsTrue (is_usable d site t x)
    ↔ (IsTrue (has (set_at d.network.calendar.nights site) x) × ¬ IsClosedByLatest scripts history t x × ¬ IsTrue (has (observed_on d t) x))
