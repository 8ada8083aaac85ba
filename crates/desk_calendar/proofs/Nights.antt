-- Which seconds the nights of sites have after a line, name by name.
use Rattle.std.proofs.Common.{◌≡◌, ◌≢◌, ◌∙◌, ap, sym, refl, ℕ, ◌+◌, ◌<◌, ◌≤◌, ◌&&◌, Bool, true, false, cond, nat_lt, List, [], ◌∷◌, ◌++◌, length}
use Rattle.std.proofs.Common.{get_or, Option, Some, None, true≢false, arith, inl, inr}
use Rattle.std.proofs.Common.{get_or-set_same, get_or-set_other, length-append, length-set}
use Rattle.std.specs.Prelude.{if◌then◌else◌, slice_set}
use Rattle.std.specs.Option.{option_map_or}
use Rattle.std.proofs.lemmas.Bool.{cases_lt}
use Rattle.std.proofs.lemmas.List.{get_or_append_left}
use Rattle.std.proofs.lemmas.List.Folds.{list_any_at}
use Rattle.std.proofs.lemmas.List.Quantifiers.{position-Some}
use Rattle.std.proofs.lemmas.Option.{same_Some}
use Rattle.plan_base.specs.declared.span.Span.{Span}
use Rattle.interval_set.specs.Spans.{has}
use Rattle.site_model.specs.Calendar.{set_at}
use Rattle.site_model.specs.Limits.{most_sites}
use Rattle.site_model.specs.Names.{is_name, is_named, number_of, numbered}
use Rattle.site_model.proofs.Numbered.{list_any-none, name_same, number_kept, number_within}
use Rattle.desk_core.specs.Seconds.{spans_of, end_of_time}
use Rattle.desk_core.proofs.Seconds.{set_below}
use Rattle.desk_calendar.specs.Nights.{SiteNight}
use Rattle.desk_calendar.proofs.Closures.{IsEarly, lt_test}

-- the kept spans have the seconds of the line's
pub kept_seconds : (spans : List Span) (x : ℕ) → IsEarly spans → has (spans_of spans) x ≡ has spans x
kept_seconds spans x early = (set_below (has spans) end_of_time).seconds x ∙ by (nat_lt x end_of_time) (has spans x) (λ is. lt_test x (early x is))
  where
    by : (before is : Bool) → (is ≡ true → before ≡ true) → (before && is) ≡ is
    by true is h = refl
    by false true h = h refl
    by false false h = refl

-- ---- names that are new

-- a name that had no number, and has one with another name, has none of the old numbers
pub new_number : (names : List (List ℕ)) (new other : List ℕ) (n : ℕ) → number_of names other ≡ None
    → number_of (numbered names new) other ≡ Some n → length names ≤ n
new_number names new other n none some = by (is_named names new) some
  where
    far : number_of (names ++ new ∷ []) other ≡ Some n → n < length names → ⊥
    far at below =
        let first : is_name other (get_or (names ++ new ∷ []) n []) ≡ true = (position-Some (is_name other) (names ++ new ∷ []) n [] at).1 in
        let here : is_name other (get_or names n []) ≡ true = ap (is_name other) (sym (get_or_append_left names (new ∷ []) [] n below)) ∙ first in
        true≢false (sym (list_any_at (is_name other) names n [] below here) ∙ list_any-none (is_name other) names none)

    by : (b : Bool) → number_of (if b then names else names ++ new ∷ []) other ≡ Some n → length names ≤ n
    by true at = let no : None ≡ Some n = sym none ∙ at in absurd (cc)
    by false at = elim (cases_lt n (length names)) [ inl below ↦ absurd (far at below) | inr above ↦ omega (arith, above) ]

-- a name that is there has a number
pub number_there : (names : List (List ℕ)) (name : List ℕ) → is_named names name ≡ true → (n : ℕ) × (number_of names name ≡ Some n)
number_there names name is = by (number_of names name) refl
  where
    by : (o : Option ℕ) → number_of names name ≡ o → (n : ℕ) × (o ≡ Some n)
    by None at = absurd (true≢false (sym is ∙ list_any-none (is_name name) names at))
    by (Some n) at = (n, refl)

-- ---- the nights

-- whether the night of the site has second x, where sites have these names and nights
abbrev pub night_has : List (List ℕ) → List (List Span) → List ℕ → ℕ → Bool
night_has sites nights site x = option_map_or (λ k. has (set_at nights k) x) (number_of sites site) false

-- the nights after a line, if there is one
abbrev pub nights_by : Option SiteNight → List (List ℕ) → List (List Span) → List (List Span)
nights_by None sites nights = nights
nights_by (Some night) sites nights = option_map_or (λ s. slice_set nights s (spans_of night.spans)) (number_of sites night.site) nights

-- another night of a site is that of its name alone
night_with : (sites : List (List ℕ)) (nights : List (List Span)) (name : List ℕ) (s : ℕ) (new : List Span) (site : List ℕ) (x : ℕ)
    → number_of sites name ≡ Some s → s < length nights
    → night_has sites (slice_set nights s new) site x ≡ cond (is_name site name) (has new x) (night_has sites nights site x)
night_with sites nights name s new site x there lt = by (number_of sites site) refl (is_name site name) refl
  where
    same_place : (o : Option ℕ) → number_of sites site ≡ o → is_name site name ≡ true → o ≡ Some s
    same_place o at is = sym at ∙ ap (number_of sites) (name_same site name is) ∙ there

    apart : (k : ℕ) → number_of sites site ≡ Some k → is_name site name ≡ false → k ≢ s
    apart k at differs is =
        let own : is_name site (get_or sites k []) ≡ true = (position-Some (is_name site) sites k [] at).1 in
        let its : name ≡ get_or sites s [] = name_same name (get_or sites s []) (position-Some (is_name name) sites s [] there).1 in
        true≢false (sym own ∙ ap (λ n. is_name site (get_or sites n [])) is ∙ ap (is_name site) (sym its) ∙ differs)

    by : (o : Option ℕ) → number_of sites site ≡ o → (b : Bool) → is_name site name ≡ b
        → option_map_or (λ k. has (set_at (slice_set nights s new) k) x) o false ≡ cond b (has new x) (option_map_or (λ k. has (set_at nights k) x) o false)
    by None at true is = let no : None ≡ Some s = same_place None at is in absurd (cc)
    by None at false is = refl
    by (Some k) at true is =
        let same : k ≡ s = same_Some k s (same_place (Some k) at is) in
        ap (λ j. has (get_or (slice_set nights s new) j []) x) same ∙ ap (λ l. has l x) (get_or-set_same nights s new [] lt)
    by (Some k) at false is = ap (λ l. has l x) (get_or-set_other nights s k new [] (apart k at is))

-- the nights of sites, where no other number has a night: those that are told
pub record AreNights (sites : List (List ℕ)) (nights : List (List Span)) (told : List ℕ → ℕ → Bool) : Type 0 where
  pub few : length sites ≤ most_sites
  pub places : length nights ≡ most_sites
  pub empty : (k x : ℕ) → length sites ≤ k → has (set_at nights k) x ≡ false
  pub is : (site : List ℕ) (x : ℕ) → night_has sites nights site x ≡ told site x

-- after a line
pub with_line : (sites : List (List ℕ)) (nights : List (List Span)) (told : List ℕ → ℕ → Bool) (night : SiteNight) → IsEarly night.spans
    → is_named sites night.site ≡ true
    → AreNights sites nights told → AreNights sites (nights_by (Some night) sites nights)
    (λ site x. cond (is_name site night.site) (has night.spans x) (told site x))
with_line sites nights told night early named h = by (number_of sites night.site) refl
  where
    by : (o : Option ℕ) → number_of sites night.site ≡ o
        → AreNights sites (option_map_or (λ s. slice_set nights s (spans_of night.spans)) o nights)
        (λ site x. cond (is_name site night.site) (has night.spans x) (told site x))
    by None at = absurd (true≢false (sym named ∙ list_any-none (is_name night.site) sites at))
    by (Some s) at =
        let below : s < length sites = number_within sites night.site s at in
        let few : length sites ≤ most_sites = h.few in
        let places : length nights ≡ most_sites = h.places in
        record {
          few = h.few;
          places = length-set nights s (spans_of night.spans) ∙ h.places;
          empty = λ k x far. ap (λ l. has l x)
              (get_or-set_other nights s k (spans_of night.spans) [] (λ same. absurd (omega (arith, far, below, same)))) ∙ h.empty k x far;
          is = λ site x.
              night_with sites nights night.site s (spans_of night.spans) site x at (omega (arith, below, few, places))
              ∙ ap (λ v. cond (is_name site night.site) v (night_has sites nights site x)) (kept_seconds night.spans x early)
              ∙ ap (cond (is_name site night.site) (has night.spans x)) (h.is site x);
        }

-- once a site has a number
pub with_site : (sites : List (List ℕ)) (nights : List (List Span)) (told : List ℕ → ℕ → Bool) (new : List ℕ) → length (numbered sites new) ≤ most_sites
    → AreNights sites nights told → AreNights (numbered sites new) nights told
with_site sites nights told new few h = record {
  few = few;
  places = h.places;
  empty = λ k x far. h.empty k x (omega (arith, far, longer (is_named sites new)));
  is = λ site x. by site x (number_of sites site) refl ∙ h.is site x;
}
  where
    longer : (b : Bool) → length sites ≤ length (if b then sites else sites ++ new ∷ [])
    longer true = omega arith
    longer false = let long : length (sites ++ new ∷ []) ≡ length sites + 1 = length-append sites (new ∷ []) in omega (arith, long)

    fresh : (site : List ℕ) (x : ℕ) (o : Option ℕ) → number_of sites site ≡ None → number_of (numbered sites new) site ≡ o
        → option_map_or (λ k. has (set_at nights k) x) o false ≡ false
    fresh site x None none at = refl
    fresh site x (Some n) none at = h.empty n x (new_number sites new site n none at)

    by : (site : List ℕ) (x : ℕ) (o : Option ℕ) → number_of sites site ≡ o
        → night_has (numbered sites new) nights site x ≡ option_map_or (λ k. has (set_at nights k) x) o false
    by site x None at = fresh site x (number_of (numbered sites new) site) at refl
    by site x (Some n) at = ap (λ o. option_map_or (λ k. has (set_at nights k) x) o false) (number_kept sites new site n at)
