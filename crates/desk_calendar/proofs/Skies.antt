-- Which seconds the skies of targets at sites have after a line, name by name.
use Rattle.std.proofs.Common.{◌≡◌, ◌⊎◌, ◌∙◌, ap, sym, subst, refl, ℕ, ◌<◌, ◌≤◌, ◌+◌, ◌&&◌, Bool, true, false, cond, nat_eq, fold, List, [], ◌∷◌, ◌++◌, length}
use Rattle.std.proofs.Common.{get_or, Option, Some, None, true≢false, arith, inl, inr, length-append}
use Rattle.std.specs.Prelude.{if◌then◌else◌}
use Rattle.std.specs.Option.{option_map, option_map_or, option_and_then}
use Rattle.std.proofs.lemmas.Bool.{and_parts, eqb-true, eq-eqb}
use Rattle.std.proofs.lemmas.Bool.Decides.{nat_tests}
use Rattle.std.proofs.lemmas.List.Quantifiers.{position-Some}
use Rattle.indexmap.specs.IndexMap.{insert_entry}
use Rattle.plan_base.specs.declared.span.Span.{Span}
use Rattle.interval_set.specs.Spans.{has}
use Rattle.site_model.specs.declared.calendar.SkyKey.{SkyKey}
use Rattle.site_model.specs.Calendar.{is_sky, sky_of}
use Rattle.site_model.specs.Names.{is_name, is_named, number_of, numbered}
use Rattle.site_model.proofs.Numbered.{name_same, number_kept, number_within, same_truth}
use Rattle.desk_core.specs.Seconds.{spans_of}
use Rattle.desk_calendar.specs.Skies.{TargetSky}
use Rattle.desk_calendar.proofs.Closures.{IsEarly}
use Rattle.desk_calendar.proofs.Nights.{kept_seconds, new_number, number_there}

-- the key of the target and the site with these numbers
abbrev pub key_at : ℕ → ℕ → SkyKey
key_at t s = record { target = record { 0 = t }; site = record { 0 = s } }

-- the key of a target and a site, where both have numbers
abbrev pub key_of : Option ℕ → Option ℕ → Option SkyKey
key_of a b = option_and_then (λ t. option_map (λ s. key_at t s) b) a

-- whether second x is one of the sky of a key, if there is one
abbrev key_has : List (SkyKey × List Span) → ℕ → Option ℕ → Option ℕ → Bool
key_has skies x a b = option_map_or (λ key. has (sky_of skies key) x) (key_of a b) false

-- whether the sky of the target at the site has second x, where targets and sites have these names
abbrev pub sky_has : List (List ℕ) → List (List ℕ) → List (SkyKey × List Span) → List ℕ → List ℕ → ℕ → Bool
sky_has targets sites skies target site x = key_has skies x (number_of targets target) (number_of sites site)

-- the skies after a line, if there is one
abbrev pub skies_by : Option TargetSky → List (List ℕ) → List (List ℕ) → List (SkyKey × List Span) → List (SkyKey × List Span)
skies_by None targets sites skies = skies
skies_by (Some sky) targets sites skies =
    option_map_or (λ key. insert_entry is_sky skies key (spans_of sky.spans)) (key_of (number_of targets sky.target) (number_of sites sky.site)) skies

-- ---- another sky

-- it stands at its key alone
sky_put : (skies : List (SkyKey × List Span)) (key other : SkyKey) (spans : List Span)
    → sky_of (insert_entry is_sky skies key spans) other ≡ cond (is_sky other key) spans (sky_of skies other)
sky_put [] key other spans = grind (arith, nat_tests)
sky_put (sky ∷ skies) key other spans = grind (arith, nat_tests, sky_put skies key other spans)

-- names are the same where their numbers are
same_test : (names : List (List ℕ)) (name other : List ℕ) (n : ℕ) (o : Option ℕ) → number_of names name ≡ Some n → number_of names other ≡ o
    → is_name other name ≡ option_map_or (λ k. nat_eq k n) o false
same_test names name other n o there at = same_truth (is_name other name) (option_map_or (λ k. nat_eq k n) o false) forth (back o at)
  where
    forth : is_name other name ≡ true → option_map_or (λ k. nat_eq k n) o false ≡ true
    forth is =
        let same : o ≡ Some n = sym at ∙ ap (number_of names) (name_same other name is) ∙ there in
        ap (λ p. option_map_or (λ k. nat_eq k n) p false) same ∙ eq-eqb n n refl

    back : (p : Option ℕ) → number_of names other ≡ p → option_map_or (λ k. nat_eq k n) p false ≡ true → is_name other name ≡ true
    back None at' is = absurd (true≢false (sym is))
    back (Some k) at' is =
        let own : is_name other (get_or names k []) ≡ true = (position-Some (is_name other) names k [] at').1 in
        let its : name ≡ get_or names n [] = name_same name (get_or names n []) (position-Some (is_name name) names n [] there).1 in
        ap (is_name other) (its ∙ ap (λ j. get_or names j []) (sym (eqb-true k n is))) ∙ own

sky_with : (targets sites : List (List ℕ)) (skies : List (SkyKey × List Span)) (sky : TargetSky) (t s : ℕ) (new : List Span) (target site : List ℕ) (x : ℕ)
    → number_of targets sky.target ≡ Some t → number_of sites sky.site ≡ Some s
    → sky_has targets sites (insert_entry is_sky skies (key_at t s) new) target site x
    ≡ cond (is_name target sky.target && is_name site sky.site) (has new x) (sky_has targets sites skies target site x)
sky_with targets sites skies sky t s new target site x at there =
    by (number_of targets target) (number_of sites site)
    ∙ ap (λ b. cond (b && option_map_or (λ k. nat_eq k s) (number_of sites site) false) (has new x) (sky_has targets sites skies target site x))
    (sym (same_test targets sky.target target t (number_of targets target) at refl))
    ∙ ap (λ b. cond (is_name target sky.target && b) (has new x) (sky_has targets sites skies target site x))
    (sym (same_test sites sky.site site s (number_of sites site) there refl))
  where
    apart : (b : Bool) (u v : List Span) → has (cond b u v) x ≡ cond b (has u x) (has v x)
    apart true u v = refl
    apart false u v = refl

    neither : (b : Bool) → false ≡ cond (b && false) (has new x) false
    neither true = refl
    neither false = refl

    by : (a b : Option ℕ) → key_has (insert_entry is_sky skies (key_at t s) new) x a b
        ≡ cond (option_map_or (λ k. nat_eq k t) a false && option_map_or (λ k. nat_eq k s) b false) (has new x) (key_has skies x a b)
    by None b = refl
    by (Some k) None = neither (nat_eq k t)
    by (Some k) (Some j) = ap (λ l. has l x) (sky_put skies (key_at t s) (key_at k j) new) ∙ apart (nat_eq k t && nat_eq j s) new (sky_of skies (key_at k j))

-- ---- the skies

-- the skies of targets at sites, where no other numbers have a sky: those that are told
pub record AreSkies (targets sites : List (List ℕ)) (skies : List (SkyKey × List Span)) (told : List ℕ → List ℕ → ℕ → Bool) : Type 0 where
  pub empty : (t s x : ℕ) → (length targets ≤ t) ⊎ (length sites ≤ s) → has (sky_of skies (key_at t s)) x ≡ false
  pub is : (target site : List ℕ) (x : ℕ) → sky_has targets sites skies target site x ≡ told target site x

-- after a line
pub with_sky_line : (targets sites : List (List ℕ)) (skies : List (SkyKey × List Span)) (told : List ℕ → List ℕ → ℕ → Bool) (sky : TargetSky)
    → IsEarly sky.spans → is_named targets sky.target ≡ true → is_named sites sky.site ≡ true → AreSkies targets sites skies told
    → AreSkies targets sites (skies_by (Some sky) targets sites skies)
    (λ target site x. cond (is_name target sky.target && is_name site sky.site) (has sky.spans x) (told target site x))
with_sky_line targets sites skies told sky early target_named site_named h =
    let t = number_there targets sky.target target_named in
    let s = number_there sites sky.site site_named in
    subst (λ l. AreSkies targets sites l (λ target site x. cond (is_name target sky.target && is_name site sky.site) (has sky.spans x) (told target site x)))
    (ap (λ o. option_map_or (λ key. insert_entry is_sky skies key (spans_of sky.spans)) o skies) (sym (known t.0 s.0 t.1 s.1)))
    (at_key t.0 s.0 t.1 s.1)
  where
    known : (t s : ℕ) → number_of targets sky.target ≡ Some t → number_of sites sky.site ≡ Some s
        → key_of (number_of targets sky.target) (number_of sites sky.site) ≡ Some (key_at t s)
    known t s at there = ap (λ a. key_of a (number_of sites sky.site)) at ∙ ap (key_of (Some t)) there

    other : (t s k j : ℕ) → t < length targets → s < length sites → (length targets ≤ k) ⊎ (length sites ≤ j) → is_sky (key_at k j) (key_at t s) ≡ true → ⊥
    other t s k j lt below (inl far) is = let same : k ≡ t = eqb-true k t (and_parts (nat_eq k t) (nat_eq j s) is).0 in omega (arith, far, lt, same)
    other t s k j lt below (inr far) is = let same : j ≡ s = eqb-true j s (and_parts (nat_eq k t) (nat_eq j s) is).1 in omega (arith, far, below, same)

    still : (b : Bool) (old : List Span) (x : ℕ) → (b ≡ true → ⊥) → has old x ≡ false → has (cond b (spans_of sky.spans) old) x ≡ false
    still true old x never is = absurd (never refl)
    still false old x never is = is

    at_key : (t s : ℕ) → number_of targets sky.target ≡ Some t → number_of sites sky.site ≡ Some s
        → AreSkies targets sites (insert_entry is_sky skies (key_at t s) (spans_of sky.spans))
        (λ target site x. cond (is_name target sky.target && is_name site sky.site) (has sky.spans x) (told target site x))
    at_key t s at there = record {
      empty = λ k j x far.
          ap (λ l. has l x) (sky_put skies (key_at t s) (key_at k j) (spans_of sky.spans))
          ∙ still (is_sky (key_at k j) (key_at t s)) (sky_of skies (key_at k j)) x
          (other t s k j (number_within targets sky.target t at) (number_within sites sky.site s there) far) (h.empty k j x far);
      is = λ target site x.
          sky_with targets sites skies sky t s (spans_of sky.spans) target site x at there
          ∙ ap (λ v. cond (is_name target sky.target && is_name site sky.site) v (sky_has targets sites skies target site x)) (kept_seconds sky.spans x early)
          ∙ ap (cond (is_name target sky.target && is_name site sky.site) (has sky.spans x)) (h.is target site x);
    }

longer : (names : List (List ℕ)) (new : List ℕ) (n : ℕ) → length (numbered names new) ≤ n → length names ≤ n
longer names new n far = by (is_named names new) far
  where
    by : (b : Bool) → length (if b then names else names ++ new ∷ []) ≤ n → length names ≤ n
    by true le = le
    by false le = let long : length (names ++ new ∷ []) ≡ length names + 1 = length-append names (new ∷ []) in omega (arith, long, le)

-- once a target has a number
pub with_new_target : (targets sites : List (List ℕ)) (skies : List (SkyKey × List Span)) (told : List ℕ → List ℕ → ℕ → Bool) (new : List ℕ)
    → AreSkies targets sites skies told
    → AreSkies (numbered targets new) sites skies told
with_new_target targets sites skies told new h = record {
  empty = λ t s x far. h.empty t s x (elim far [ inl a ↦ inl (longer targets new t a) | inr b ↦ inr b ]);
  is = λ target site x. by target site x (number_of targets target) refl ∙ h.is target site x;
}
  where
    fresh : (target : List ℕ) (x : ℕ) (a b : Option ℕ) → number_of targets target ≡ None → number_of (numbered targets new) target ≡ a
        → key_has skies x a b ≡ false
    fresh target x None b none at = refl
    fresh target x (Some t) None none at = refl
    fresh target x (Some t) (Some s) none at = h.empty t s x (inl (new_number targets new target t none at))

    by : (target site : List ℕ) (x : ℕ) (a : Option ℕ) → number_of targets target ≡ a
        → sky_has (numbered targets new) sites skies target site x ≡ key_has skies x a (number_of sites site)
    by target site x None at = fresh target x (number_of (numbered targets new) target) (number_of sites site) at refl
    by target site x (Some t) at = ap (λ a. key_has skies x a (number_of sites site)) (number_kept targets new target t at)

-- once a site has a number
pub with_new_site : (targets sites : List (List ℕ)) (skies : List (SkyKey × List Span)) (told : List ℕ → List ℕ → ℕ → Bool) (new : List ℕ)
    → AreSkies targets sites skies told
    → AreSkies targets (numbered sites new) skies told
with_new_site targets sites skies told new h = record {
  empty = λ t s x far. h.empty t s x (elim far [ inl a ↦ inl a | inr b ↦ inr (longer sites new s b) ]);
  is = λ target site x. by target site x (number_of sites site) refl ∙ h.is target site x;
}
  where
    fresh : (site : List ℕ) (x : ℕ) (a b : Option ℕ) → number_of sites site ≡ None → number_of (numbered sites new) site ≡ b
        → key_has skies x a b ≡ key_has skies x a None
    fresh site x None b none at = refl
    fresh site x (Some t) None none at = refl
    fresh site x (Some t) (Some s) none at = h.empty t s x (inr (new_number sites new site s none at))

    by : (target site : List ℕ) (x : ℕ) (b : Option ℕ) → number_of sites site ≡ b
        → sky_has targets (numbered sites new) skies target site x ≡ key_has skies x (number_of targets target) b
    by target site x None at = fresh site x (number_of targets target) (number_of (numbered sites new) site) at refl
    by target site x (Some s) at = ap (key_has skies x (number_of targets target)) (number_kept sites new site s at)

-- once names of targets have numbers
pub with_new_targets : (names targets sites : List (List ℕ)) (skies : List (SkyKey × List Span)) (told : List ℕ → List ℕ → ℕ → Bool)
    → AreSkies targets sites skies told
    → AreSkies (fold numbered targets names) sites skies told
with_new_targets [] targets sites skies told h = h
with_new_targets (new ∷ names) targets sites skies told h =
    with_new_targets names (numbered targets new) sites skies told (with_new_target targets sites skies told new h)
