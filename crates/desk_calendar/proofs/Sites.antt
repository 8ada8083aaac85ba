-- The sites that a history tells, and their numbers.
use Rattle.std.proofs.Common.{◌≡◌, ◌∙◌, ap, sym, refl, ℕ, zero, suc, Bool, true, false, ◌&&◌, ◌||◌, List, [], ◌∷◌, ◌++◌, fold, map, slice_get, Option}
use Rattle.std.proofs.Common.{Some, None}
use Rattle.std.specs.Prelude.{if◌then◌else◌}
use Rattle.std.specs.List.{cons_option}
use Rattle.std.specs.Option.{option_to_list}
use Rattle.std.proofs.lemmas.Bool.{eq-eqb}
use Rattle.std.proofs.lemmas.List.{append-nil, map-append}
use Rattle.std.proofs.lemmas.List.Elements.{filter_map-append}
use Rattle.std.proofs.lemmas.List.Sums.{fold_push}
use Rattle.std.proofs.lemmas.Option.{same_Some}
use Rattle.plan_io.specs.declared.lines.ScriptLine.{ScriptLine}
use Rattle.site_model.specs.declared.code.Code.{Code}
use Rattle.site_model.specs.Names.{is_name, is_named, number_of, numbered}
use Rattle.site_model.proofs.Numbered.{number_kept}
use Rattle.desk_events.specs.declared.entry.EventEntry.{EventEntry}
use Rattle.desk_calendar.specs.Told.{code_told, telescopes_told, sites_told}
use Rattle.desk_calendar.proofs.Goes.{sites_by}
use Rattle.desk_calendar.proofs.Nights.{number_there}

-- ---- one entry more

one_told : (o : Option Code) → cons_option o [] ≡ option_to_list o
one_told None = refl
one_told (Some code) = refl

pub codes-push : (scripts : List (List ScriptLine)) (before : List EventEntry) (e : EventEntry)
    → telescopes_told scripts (before ++ e ∷ []) ≡ telescopes_told scripts before ++ option_to_list (code_told scripts e)
codes-push scripts before e =
    filter_map-append (code_told scripts) before (e ∷ []) ∙ ap (λ (l : List Code). telescopes_told scripts before ++ l) (one_told (code_told scripts e))

-- the sites of telescopes
abbrev sites_in : List Code → List (List ℕ)
sites_in codes = fold numbered [] (map (λ code. code.site) codes)

site_more : (o : Option Code) (codes : List Code) → sites_in (codes ++ option_to_list o) ≡ sites_by o (sites_in codes)
site_more None codes = ap sites_in (append-nil codes)
site_more (Some code) codes =
    ap (fold numbered []) (map-append (λ (c : Code). c.site) codes (code ∷ [])) ∙ fold_push numbered [] (map (λ (c : Code). c.site) codes) code.site

pub sites-push : (scripts : List (List ScriptLine)) (before : List EventEntry) (e : EventEntry)
    → sites_told scripts (before ++ e ∷ []) ≡ sites_by (code_told scripts e) (sites_told scripts before)
sites-push scripts before e = ap sites_in (codes-push scripts before e) ∙ site_more (code_told scripts e) (telescopes_told scripts before)

-- ---- each telescope's site has a number

name_itself : (name : List ℕ) → is_name name name ≡ true
name_itself [] = refl
name_itself (x ∷ name) = ap (λ b. b && is_name name name) (eq-eqb x x refl) ∙ name_itself name

last_there : (names : List (List ℕ)) (name : List ℕ) → is_named (names ++ name ∷ []) name ≡ true
last_there [] name = ap (λ b. b || false) (name_itself name)
last_there (other ∷ names) name = by (is_name name other) (last_there names name)
  where
    by : (b : Bool) → is_named (names ++ name ∷ []) name ≡ true → (b || is_named (names ++ name ∷ []) name) ≡ true
    by true is = refl
    by false is = is

-- a name that is numbered is there
pub now_there : (names : List (List ℕ)) (name : List ℕ) → is_named (numbered names name) name ≡ true
now_there names name = by (is_named names name) refl
  where
    by : (b : Bool) → is_named names name ≡ b → is_named (if b then names else names ++ name ∷ []) name ≡ true
    by true is = is
    by false is = last_there names name

-- and keeps its number
still_there : (more names : List (List ℕ)) (name : List ℕ) (n : ℕ) → number_of names name ≡ Some n → number_of (fold numbered names more) name ≡ Some n
still_there [] names name n at = at
still_there (new ∷ more) names name n at = still_there more (numbered names new) name n (number_kept names new name n at)

each_there : (codes : List Code) (names : List (List ℕ)) (t : ℕ) (code : Code) → slice_get codes t ≡ Some code
    → (n : ℕ) × (number_of (fold numbered names (map (λ c. c.site) codes)) code.site ≡ Some n)
each_there [] names t code at = absurd (cc)
each_there (c ∷ codes) names zero code at =
    let same : c ≡ code = same_Some c code at in
    let there : (n : ℕ) × (number_of (numbered names c.site) c.site ≡ Some n) = number_there (numbered names c.site) c.site (now_there names c.site) in (
      there.0,
      ap (λ (k : Code). number_of (fold numbered (numbered names c.site) (map (λ j. j.site) codes)) k.site) (sym same)
          ∙ still_there (map (λ j. j.site) codes) (numbered names c.site) c.site there.0 there.1,
    )
each_there (c ∷ codes) names (suc t) code at = each_there codes (numbered names c.site) t code at

-- the site of a telescope that is told has a number
pub site_there : (scripts : List (List ScriptLine)) (history : List EventEntry) (t : ℕ) (code : Code)
    → slice_get (telescopes_told scripts history) t ≡ Some code
    → (n : ℕ) × (number_of (sites_told scripts history) code.site ≡ Some n)
site_there scripts history t code at = each_there (telescopes_told scripts history) [] t code at
