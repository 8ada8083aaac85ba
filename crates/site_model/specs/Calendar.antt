-- What contracts see of a calendar: nights, closures and skies as sets of seconds.
use Rattle.std.specs.Prelude.{◌≡◌, ℕ, ◌≤◌, ◌<◌, nat_lt, nat_eq, Bool, false, ◌&&◌, List, [], Option, Some, None, if◌then◌else◌, All, AllPairs, Contains}
use Rattle.std.specs.Prelude.{length, replicate, slice_index_or, slice_set, sum_by, fold, map}
use Rattle.std.specs.Option.{unwrap_or}
use Rattle.std.specs.Map.{lookup}
use Rattle.indexmap.specs.IndexMap.{insert_entry}
use Rattle.plan_base.specs.declared.span.Span.{Span}
use Rattle.plan_base.specs.declared.number.TelescopeNo.{TelescopeNo}
use Rattle.interval_set.specs.Spans.{IsUnion, IsDifference}
use Rattle.site_model.specs.declared.calendar.SkyKey.{SkyKey}
use Rattle.site_model.specs.declared.changes.Change.{Change}
use Rattle.site_model.specs.declared.changes.Change.TheVariants.{Close, Reopen}
use Rattle.site_model.specs.declared.changes.Closed.{Closed}
use Rattle.site_model.specs.declared.fault.SiteFault.{SiteFault}
use Rattle.site_model.specs.declared.fault.FullOf.TheVariants.{Visibility, Closures}
use Rattle.plan_base.specs.Limits.{most_telescopes, most_visibility, most_spans}
use Rattle.site_model.specs.Limits.{most_sites, most_closures, full}

-- the night of each site and the closures of each telescope, one list for each number that there may be, and the skies
-- that were given, each of a target at a site
pub record CalendarSeen : Type 0 where
  pub nights : List (List Span)
  pub closures : List (List Span)
  pub skies : List (SkyKey × List Span)

-- no night, no closure and no sky
abbrev pub no_calendar : CalendarSeen
no_calendar = record { nights = replicate most_sites []; closures = replicate most_telescopes []; skies = [] }

-- the set of a number
abbrev pub set_at : List (List Span) → ℕ → List Span
set_at sets n = slice_index_or sets n []

-- whether two skies are of one target at one site
abbrev pub is_sky : SkyKey → SkyKey → Bool
is_sky a b = nat_eq a.target.0 b.target.0 && nat_eq a.site.0 b.site.0

-- the sky of a target at a site, which has no seconds where none was given
abbrev pub sky_of : List (SkyKey × List Span) → SkyKey → List Span
sky_of skies key = unwrap_or (lookup (is_sky key) skies) []

-- the pieces of all skies
abbrev pub pieces_of : List (SkyKey × List Span) → ℕ
pieces_of skies = sum_by (λ sky. length sky.1) skies

-- no night, no telescope's closures and no sky have more pieces than they may have, nor have all skies
pub record IsWithinLimits (c : CalendarSeen) : Type 0 where
  pub nights : All (λ night. length night ≤ most_spans) c.nights
  pub closures : All (λ closed. length closed ≤ most_closures) c.closures
  pub skies : All (λ sky. length sky.1 ≤ most_spans) c.skies
  pub visibility : pieces_of c.skies ≤ most_visibility

-- with another night of a site
abbrev pub with_night : CalendarSeen → ℕ → List Span → CalendarSeen
with_night c site spans = record c { nights = slice_set c.nights site spans }

-- with another sky of a target at a site
abbrev pub with_sky : CalendarSeen → SkyKey → List Span → CalendarSeen
with_sky c key spans = record c { skies = insert_entry is_sky c.skies key spans }

-- why a sky isn't taken, if it isn't
abbrev pub sky_refusal : CalendarSeen → SkyKey → List Span → Option SiteFault
sky_refusal c key spans = if nat_lt most_visibility (pieces_of (with_sky c key spans).skies) then Some (full Visibility) else None

-- what a line makes of the closed seconds of a telescope in its scope
abbrev pub IsChanged : Change → List Span → List Span → List Span → Type 0
IsChanged Close old spans new = IsUnion old spans new
IsChanged Reopen old spans new = IsDifference old spans new

-- the closures after a line: those of the telescopes in its scope are changed and not too many, the others stay
pub record IsClosureLine (change : Change) (InScope : ℕ → Type 0) (spans : List Span) (old new : List (List Span)) : Type 0 where
  pub inside : (t : ℕ) → InScope t → IsChanged change (set_at old t) spans (set_at new t)
  pub few : (t : ℕ) → InScope t → length (set_at new t) ≤ most_closures
  pub outside : (t : ℕ) → (InScope t → ⊥) → set_at new t ≡ set_at old t
  pub places : length new ≡ length old

-- the closures of a telescope would have too many pieces after a line
pub record PassesClosures (change : Change) (old spans : List Span) : Type 0 where
  pub new : List Span
  pub changed : IsChanged change old spans new
  pub many : most_closures < length new

-- the closures of a telescope in the scope of a line would have too many pieces
pub record IsFullClosure (change : Change) (InScope : ℕ → Type 0) (spans : List Span) (old : List (List Span)) (fault : SiteFault) : Type 0 where
  pub telescope : ℕ
  pub inside : InScope telescope
  pub passes : PassesClosures change (set_at old telescope) spans
  pub full : fault ≡ full Closures

-- the telescope is one of the list
abbrev pub IsListed : List TelescopeNo → ℕ → Type 0
IsListed telescopes t = Contains telescopes record { 0 = t }

-- one change for each of the telescopes, to what the line makes of its closures
pub record AreChanges (change : Change) (telescopes : List TelescopeNo) (spans : List Span) (old : List (List Span)) (changes : List Closed) : Type 0 where
  pub each : map (λ c. c.telescope) changes ≡ telescopes
  pub changed : All (λ c. IsChanged change (set_at old c.telescope.0) spans c.spans) changes
  pub few : All (λ c. length c.spans ≤ most_closures) changes

-- the closures once each change was put in its place
abbrev pub with_changes : List (List Span) → List Closed → List (List Span)
with_changes closures changes = fold (λ done c. slice_set done c.telescope.0 c.spans) closures changes

-- what is visible at different targets and sites has no more pieces together than all skies
abbrev pub SkiesAreCounted : Type 0
SkiesAreCounted =
    (skies : List (SkyKey × List Span)) (keys : List SkyKey) → AllPairs (λ a b. is_sky a b ≡ false) keys
    → sum_by (λ key. length (sky_of skies key)) keys ≤ pieces_of skies
