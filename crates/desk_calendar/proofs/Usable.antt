-- After each legal history the seconds of nights and of skies, and the usable ones, are those that its entries tell.
use Rattle.std.proofs.Common.{◌≡◌, ◌∙◌, ap, sym, subst, refl, ℕ, ◌<◌, ◌≤◌, Bool, true, false, not, ◌&&◌, List, length, slice_get, Option, Some, None}
use Rattle.std.proofs.Common.{true≢false, arith, inl, inr}
use Rattle.std.specs.Prelude.{IsTrue, IsSomeAnd, ◌↔◌}
use Rattle.std.specs.Option.{option_map, option_map_or, unwrap_or}
use Rattle.std.proofs.lemmas.Bool.{and_parts, cases_lt}
use Rattle.std.proofs.lemmas.Option.{same_Some, slice_get-map}
use Rattle.plan_io.specs.declared.lines.ScriptLine.{ScriptLine}
use Rattle.interval_set.specs.Spans.{has}
use Rattle.site_model.specs.declared.code.Code.{Code}
use Rattle.site_model.specs.declared.calendar.SkyKey.{SkyKey}
use Rattle.site_model.specs.Calendar.{set_at, sky_of}
use Rattle.site_model.specs.Network.{sky_key}
use Rattle.site_model.specs.Names.{number_of}
use Rattle.site_model.specs.Registry.{TelescopeSeen}
use Rattle.desk_events.specs.declared.entry.EventEntry.{EventEntry}
use Rattle.desk_core.specs.Desk.{DeskSeen}
use Rattle.desk_core.specs.DeskSnapshot.{observed_on, is_usable, site_of}
use Rattle.desk_core.specs.History.{replay, IsLegal}
use Rattle.desk_calendar.specs.Laws.{NightsAreTold, NightsAreOfSites, SkiesAreTold, SkiesAreOfTargets, UsableSecondsAreTold, UsableByNumber}
use Rattle.desk_calendar.specs.Nights.{SiteNight, last_night, IsNightByLatest}
use Rattle.desk_calendar.specs.Skies.{TargetSky, last_sky}
use Rattle.desk_calendar.specs.Told.{sites_told, IsClosedByLatest}
use Rattle.desk_calendar.proofs.Histories.{IsTold, AreTold, desk_told}
use Rattle.desk_calendar.proofs.Nights.{night_has}
use Rattle.desk_calendar.proofs.NightsTold.{night_said}
use Rattle.desk_calendar.proofs.Skies.{sky_has}
use Rattle.desk_calendar.proofs.SkiesTold.{sky_said}
use Rattle.desk_calendar.proofs.Sites.{site_there}

-- ---- nights

some_and : {A : Type 0} (o : Option A) (test : A → Bool) → option_map_or test o false ≡ true → IsSomeAnd o (λ a. IsTrue (test a))
some_and None test is = absurd (true≢false (sym is))
some_and (Some a) test is = is

and_some : {A : Type 0} (o : Option A) (test : A → Bool) → IsSomeAnd o (λ a. IsTrue (test a)) → option_map_or test o false ≡ true
and_some None test never = absurd never
and_some (Some a) test is = is

pub nights_told_so : NightsAreTold
nights_told_so scripts history d site x h is =
    let told : AreTold scripts history d.network = desk_told scripts history d h is in
    let same : night_has (sites_told scripts history) d.network.calendar.nights site x ≡ night_said scripts history site x =
    ap (λ (l : List (List ℕ)). night_has l d.network.calendar.nights site x) (sym told.sites) ∙ told.nights.is site x in
    let test : ℕ → Bool = λ s. has (set_at d.network.calendar.nights s) x in
    let line : SiteNight → Bool = λ night. has night.spans x in (
      λ night. some_and (number_of (sites_told scripts history) site) test (same ∙ and_some (last_night scripts history site) line night),
      λ kept. some_and (last_night scripts history site) line (sym same ∙ and_some (number_of (sites_told scripts history) site) test kept),
    )

pub of_sites_told : NightsAreOfSites
of_sites_told scripts history d s x h is there =
    let told : AreTold scripts history d.network = desk_told scripts history d h is in
    elim (cases_lt s (length (sites_told scripts history))) [
      | inl below ↦ below
      | inr above ↦
          let far : length d.network.registry.sites ≤ s = subst (λ (l : List (List ℕ)). length l ≤ s) (sym told.sites) (omega (arith, above)) in
          absurd (true≢false (sym there ∙ told.nights.empty s x far))
    ]

-- ---- skies

-- a sky that is told is the one on the desk, second by second
pub skies_told_so : SkiesAreTold
skies_told_so scripts history d target site x h is =
    let told : AreTold scripts history d.network = desk_told scripts history d h is in
    let same : sky_has d.network.registry.targets d.network.registry.sites d.network.calendar.skies target site x ≡ sky_said scripts history target site x =
    told.skies.is target site x in
    let test : SkyKey → Bool = λ key. has (sky_of d.network.calendar.skies key) x in
    let line : TargetSky → Bool = λ sky. has sky.spans x in (
      λ sky. some_and (sky_key d.network.registry target site) test (same ∙ and_some (last_sky scripts history target site) line sky),
      λ kept. some_and (last_sky scripts history target site) line (sym same ∙ and_some (sky_key d.network.registry target site) test kept),
    )

-- where a key has a sky, a target and a site have its numbers
pub of_targets_told : SkiesAreOfTargets
of_targets_told scripts history d key x h is there = (
  within key.target.0 (length d.network.registry.targets) (λ far. true≢false (sym there ∙ told.skies.empty key.target.0 key.site.0 x (inl far))),
  within key.site.0 (length d.network.registry.sites) (λ far. true≢false (sym there ∙ told.skies.empty key.target.0 key.site.0 x (inr far))),
)
  where
    told : AreTold scripts history d.network
    told = desk_told scripts history d h is

    within : (a b : ℕ) → (b ≤ a → ⊥) → a < b
    within a b not_far = elim (cases_lt a b) [ inl below ↦ below | inr above ↦ absurd (not_far (omega (arith, above))) ]

-- ---- usable seconds

pub by_number_told : UsableByNumber
by_number_told scripts history d site t x h is =
    let told : IsTold scripts history d.network.calendar.closures = (desk_told scripts history d h is).closures in (
      λ usable.
          let night = and_parts (has (set_at d.network.calendar.nights site) x)
          (not (has (set_at d.network.calendar.closures t) x) && not (has (observed_on d t) x)) usable in
          let free = and_parts (not (has (set_at d.network.calendar.closures t) x)) (not (has (observed_on d t) x)) night.1 in (
            night.0,
            λ k. no_less (has (set_at d.network.calendar.closures t) x) (told.only t x k) free.0,
            λ runs. no_less (has (observed_on d t) x) runs free.1,
          ),
      λ p.
          by (has (set_at d.network.calendar.nights site) x) (has (set_at d.network.calendar.closures t) x) (has (observed_on d t) x) p.0
          (λ c. p.1 (told.closed t x c)) p.2,
    )
  where
    no_less : (b : Bool) → b ≡ true → not b ≡ true → ⊥
    no_less true is out = true≢false (sym out)
    no_less false is out = true≢false (sym is)

    by : (a b c : Bool) → a ≡ true → (b ≡ true → ⊥) → (c ≡ true → ⊥) → (a && (not b && not c)) ≡ true
    by true true c a b' c' = absurd (b' refl)
    by true false true a b' c' = absurd (c' refl)
    by true false false a b' c' = refl
    by false b c a b' c' = absurd (true≢false (sym a))

-- where the telescope's site has this number
usable_at : (scripts : List (List ScriptLine)) (history : List EventEntry) (d : DeskSeen) (site : List ℕ) (s t x : ℕ) → IsLegal scripts history
    → (replay scripts history).desk ≡ Some d
    → number_of (sites_told scripts history) site ≡ Some s
    → IsTrue (is_usable d s t x) ↔ (IsNightByLatest scripts history site x × ¬ IsClosedByLatest scripts history t x × ¬ IsTrue (has (observed_on d t) x))
usable_at scripts history d site s t x h is at =
    let kept = by_number_told scripts history d s t x h is in
    let night = nights_told_so scripts history d site x h is in
    let known : IsSomeAnd (number_of (sites_told scripts history) site) (λ k. IsTrue (has (set_at d.network.calendar.nights k) x))
    ≡ IsTrue (has (set_at d.network.calendar.nights s) x) =
    ap (λ (o : Option ℕ). IsSomeAnd o (λ k. IsTrue (has (set_at d.network.calendar.nights k) x))) at in (
      λ usable. let parts = kept.0 usable in (night.1 (subst (λ A. A) (sym known) parts.0), parts.1, parts.2),
      λ p. kept.1 (subst (λ A. A) known (night.0 p.0), p.1, p.2),
    )

pub usable_told : UsableSecondsAreTold
usable_told scripts history d code t x h is there = by (slice_get d.network.registry.telescopes t) refl
  where
    told : AreTold scripts history d.network
    told = desk_told scripts history d h is

    coded : option_map (λ (k : TelescopeSeen). k.code) (slice_get d.network.registry.telescopes t) ≡ Some code
    coded = sym (slice_get-map (λ (k : TelescopeSeen). k.code) d.network.registry.telescopes t) ∙ ap (λ (l : List Code). slice_get l t) told.codes ∙ there

    number : (s : ℕ) × (number_of (sites_told scripts history) code.site ≡ Some s)
    number = site_there scripts history t code there

    place : (telescope : TelescopeSeen) → slice_get d.network.registry.telescopes t ≡ Some telescope → site_of d telescope ≡ number.0
    place telescope at =
        let same : telescope.code ≡ code = same_Some telescope.code code (ap (option_map (λ (k : TelescopeSeen). k.code)) (sym at) ∙ coded) in
        ap (λ (l : List (List ℕ)). unwrap_or (number_of l telescope.code.site) 0) told.sites
        ∙ ap (λ (k : Code). unwrap_or (number_of (sites_told scripts history) k.site) 0) same
        ∙ ap (λ (o : Option ℕ). unwrap_or o 0) number.1

    by : (o : Option TelescopeSeen) → slice_get d.network.registry.telescopes t ≡ o
        → IsSomeAnd o (λ telescope. IsTrue (is_usable d (site_of d telescope) t x)
        ↔ (IsNightByLatest scripts history code.site x × ¬ IsClosedByLatest scripts history t x × ¬ IsTrue (has (observed_on d t) x)))
    by None at = let none : None ≡ Some code = ap (option_map (λ (k : TelescopeSeen). k.code)) (sym at) ∙ coded in absurd (cc)
    by (Some telescope) at =
        subst (λ s. IsTrue (is_usable d s t x)
        ↔ (IsNightByLatest scripts history code.site x × ¬ IsClosedByLatest scripts history t x × ¬ IsTrue (has (observed_on d t) x)))
        (sym (place telescope at)) (usable_at scripts history d code.site number.0 t x h is number.1)
